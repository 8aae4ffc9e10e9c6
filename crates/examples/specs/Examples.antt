-- Worked examples of billing, each a line to check by hand.
use Rattle.std.specs.Prelude.{◌≡◌, ℕ, ◌+◌, ◌*◌, min, List, [], ◌∷◌, pos, negsuc, ◌-ℤ◌, Some, None, Option}
use Rattle.amounts.specs.Amounts.{value, charged, mean_of}
use Rattle.meters.specs.Index.{index_kwh}

-- the price that is fixed of a market price and the mean price of lots: the smaller
abbrev pub smaller : ℕ → Option ℕ → Option ℕ
smaller market (Some mean) = Some (min market mean)
smaller market None = None

abbrev pub two_lots : List (ℕ × ℕ)
two_lots = (100, 1_400_000) ∷ (50, 1_370_000) ∷ []

pub record Examples : Type 0 where
  -- 6,277.5 bani: a half goes up; 6,271.2225 goes down
  pub thousand : value 1_000 450_000 1_395_000 ≡ 6_278
  pub one_less : value 999 450_000 1_395_000 ≡ 6_271
  pub nothing : value 0 450_000 1_395_000 ≡ 0
  -- the unit price is not rounded
  pub unit_price : value 3_000_000 333_333 1_432_101 ≡ 14_320_996
  -- of 10 kWh 85 percent are 8.5, so 9 are exempt
  pub mostly_exempt : charged 10 85 ≡ 1
  -- lots of 100 at 1,400,000 and 50 at 1,370,000 have a mean; a market price of 1,385,000 is smaller, and is fixed
  pub mean_price : mean_of two_lots ≡ Some 1_390_000
  pub fixed_price : smaller 1_385_000 (mean_of two_lots) ≡ Some 1_385_000
  -- two intervals of 1,000 kWh, 6,278 bani each, settled at a smaller quota
  pub settled : value (1_000 + 1_000) 440_000 1_395_000 ≡ 12_276
  pub settlement : pos (value 2_000 440_000 1_395_000) -ℤ pos (2 * value 1_000 450_000 1_395_000) ≡ negsuc 279
  -- one of them corrected late to 1,100 kWh
  pub corrected : value (1_100 + 1_000) 440_000 1_395_000 ≡ 12_890
  pub correction : pos (value 2_100 440_000 1_395_000) -ℤ pos (value 2_000 440_000 1_395_000) ≡ pos 614
  -- 100 kWh between two indexes over 31 days: the first ten days, and the rest
  pub first_days : index_kwh 1 31 100 1 10 ≡ Some 32
  pub other_days : index_kwh 1 31 100 11 31 ≡ Some 68
