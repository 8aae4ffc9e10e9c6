-- What a board was told, and what telling it does.
use Rattle.std.specs.Prelude.{ℕ, not, ◌&&◌, ◌||◌, List, [], ◌∷◌, ◌++◌, length, is_some, nat_le}
use Rattle.amounts.specs.Amounts.{lawful_quota, lawful_price}
use Rattle.amounts.specs.declared.refusal.Refusal.TheVariants.{BadDay, YearNotServed, NoRoom, BadFigure}
use Rattle.amounts.specs.Tables.{Table, Outcome, decide}
use Rattle.calendar.specs.Days.{is_day, is_month, is_year, new_year, month_number}
use Rattle.sources.specs.declared.figures.QuotaFrom.{QuotaFrom}
use Rattle.sources.specs.declared.figures.MonthPrice.{MonthPrice}
use Rattle.sources.specs.declared.figures.FinalPair.{FinalPair}
use Rattle.sources.specs.declared.held.Board.{Board}
use Rattle.sources.specs.Figures.{price_of, pair_of, last_day, unreplaced}
use Rattle.sources.specs.Lists.{from_on}

-- quotas, prices and final pairs that were told, in the order in which they came
pub record Figures : Type 0 where
  pub quotas : List QuotaFrom
  pub prices : List MonthPrice
  pub pairs : List FinalPair

-- what a board was told
abbrev pub figures : Board → Figures
figures b = record { quotas = b.quotas.kept.items; prices = b.prices.kept.items; pairs = b.pairs.kept.items }

-- nothing was told
abbrev pub nothing : Figures
nothing = record { quotas = []; prices = []; pairs = [] }

-- what refuses a quota: no day of the calendar, 16 are kept, no such quota, or a day not later than the last one told
abbrev pub quota_table : ℕ → ℕ → Figures → Table
quota_table day quota f =
    (not (is_day day), BadDay)
    ∷ (nat_le 16 (length f.quotas), NoRoom)
    ∷ (not (lawful_quota quota) || nat_le day (last_day f.quotas), BadFigure)
    ∷ []

-- a quota is kept after the others
abbrev pub with_quota : QuotaFrom → Figures → Figures
with_quota q f = record f { quotas = f.quotas ++ q ∷ [] }

-- telling a quota from a day on
abbrev pub tell_quota : ℕ → ℕ → Figures → Outcome (Unit {0}) Figures
tell_quota day quota f =
    decide (quota_table day quota f) f tt (with_quota (record { from = day; quota = quota }) f)

-- what refuses a price: no month of the calendar, 48 are kept, no such price, or the month has its price
abbrev pub price_table : ℕ → ℕ → Figures → Table
price_table month price f =
    (not (is_month month), BadDay)
    ∷ (nat_le 48 (length f.prices), NoRoom)
    ∷ (not (lawful_price price) || is_some (price_of f.prices month), BadFigure)
    ∷ []

-- a price is kept after the others
abbrev pub with_price : MonthPrice → Figures → Figures
with_price p f = record f { prices = f.prices ++ p ∷ [] }

-- telling the price of a month
abbrev pub tell_price : ℕ → ℕ → Figures → Outcome (Unit {0}) Figures
tell_price month price f =
    decide (price_table month price f) f tt (with_price (record { month = month; price = price }) f)

-- what refuses a final pair: no year of the calendar, 8 are kept, no such quota, no such price, or the year has its pair
abbrev pub final_table : ℕ → ℕ → ℕ → Figures → Table
final_table year quota price f =
    (not (is_year year), YearNotServed)
    ∷ (nat_le 8 (length f.pairs), NoRoom)
    ∷ (not (lawful_quota quota && lawful_price price) || is_some (pair_of f.pairs year), BadFigure)
    ∷ []

-- a final pair is kept after the others
abbrev pub with_pair : FinalPair → Figures → Figures
with_pair p f = record f { pairs = f.pairs ++ p ∷ [] }

-- telling the final quota and the market price of a year
abbrev pub tell_final : ℕ → ℕ → ℕ → Figures → Outcome (Unit {0}) Figures
tell_final year quota price f =
    decide (final_table year quota price f) f tt (with_pair (record { year = year; figures = record { quota = quota; price = price } }) f)

-- what a board still knows after it forgot all before a year: the quotas that none replaces by 1 January,
-- the prices from January on, and the pairs from the year on
abbrev pub known_from : ℕ → Figures → Figures
known_from year f = record {
  quotas = unreplaced (new_year year) f.quotas;
  prices = from_on (λ p. p.month) (month_number year 1) f.prices;
  pairs = from_on (λ p. p.year) year f.pairs;
}

-- what refuses to forget: no year of the calendar
abbrev pub forget_table : ℕ → Table
forget_table year = (not (is_year year), YearNotServed) ∷ []

-- forgetting all before a year
abbrev pub forget : ℕ → Figures → Outcome (Unit {0}) Figures
forget year f = decide (forget_table year) f tt (known_from year f)
