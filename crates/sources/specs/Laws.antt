-- What a board's figures say, in whole.
use Rattle.std.specs.Prelude.{◌≡◌, ℕ, ◌+◌, ◌<◌, ◌≤◌, true, length, drop, is_some, Some, None, Ok, ◌≢◌, slice_index_or}
use Rattle.amounts.specs.Amounts.{lawful_quota, lawful_price}
use Rattle.amounts.specs.Tables.{Rising}
use Rattle.calendar.specs.Days.{is_day, is_month, is_year, new_year, month_number}
use Rattle.sources.specs.declared.figures.FinalPair.{FinalPair}
use Rattle.sources.specs.declared.held.Board.{Board}
use Rattle.sources.specs.Figures.{quota_on, price_of, pair_of, day_at, quota_at, month_at, price_at, last_day}
use Rattle.sources.specs.Board.{Figures, figures, quota_table, price_table, final_table, forget_table, tell_quota, tell_price, tell_final, forget}

-- what the figures of every board say
pub record BoardLaws : Type 0 where
  -- a quota holds from its day until the day before the next one's
  pub until_next : (b : Board) (k d : ℕ) →
      k < length (figures b).quotas →
      day_at (figures b).quotas k ≤ d →
      (k + 1 < length (figures b).quotas → d < day_at (figures b).quotas (k + 1)) →
      quota_on (figures b).quotas d ≡ Some (quota_at (figures b).quotas k)
  -- before the first one's day there is silence
  pub before_first : (b : Board) (d : ℕ) →
      (0 < length (figures b).quotas → d < day_at (figures b).quotas 0) →
      quota_on (figures b).quotas d ≡ None
  -- each price is the price of its month
  pub of_its_month : (b : Board) (k : ℕ) →
      k < length (figures b).prices →
      price_of (figures b).prices (month_at (figures b).prices k) ≡ Some (price_at (figures b).prices k)
  -- of a month that no price was told for there is silence
  pub untold_month : (b : Board) (m : ℕ) →
      ((k : ℕ) → k < length (figures b).prices → month_at (figures b).prices k ≢ m) →
      price_of (figures b).prices m ≡ None
  -- each final pair is its year's
  pub of_its_year : (b : Board) (k : ℕ) (d : FinalPair) →
      k < length (figures b).pairs →
      pair_of (figures b).pairs (slice_index_or (figures b).pairs k d).year ≡ Some (slice_index_or (figures b).pairs k d).figures
  -- of a year that no pair was told for there is silence
  pub untold_year : (b : Board) (y : ℕ) (d : FinalPair) →
      ((k : ℕ) → k < length (figures b).pairs → (slice_index_or (figures b).pairs k d).year ≢ y) →
      pair_of (figures b).pairs y ≡ None

-- what every telling does
pub record TellingLaws : Type 0 where
  -- a quota that is taken holds from its day on
  pub quota_taken : (f : Figures) (day quota d : ℕ) →
      (tell_quota day quota f).0 ≡ Ok tt → day ≤ d →
      quota_on (tell_quota day quota f).1.quotas d ≡ Some quota
  -- and no telling changes the quota of an earlier day
  pub earlier_days_stay : (f : Figures) (day quota d : ℕ) →
      d < day → quota_on (tell_quota day quota f).1.quotas d ≡ quota_on f.quotas d
  -- a price that is taken is its month's
  pub price_taken : (f : Figures) (month price : ℕ) →
      (tell_price month price f).0 ≡ Ok tt →
      price_of (tell_price month price f).1.prices month ≡ Some price
  -- and no telling changes the price of another month
  pub other_months_stay : (f : Figures) (month price m : ℕ) →
      (month ≢ m) → price_of (tell_price month price f).1.prices m ≡ price_of f.prices m
  -- a final pair that is taken is its year's
  pub pair_taken : (f : Figures) (year quota price : ℕ) →
      (tell_final year quota price f).0 ≡ Ok tt →
      pair_of (tell_final year quota price f).1.pairs year ≡ Some (record { quota = quota; price = price })
  -- and no telling changes the pair of another year
  pub other_years_stay : (f : Figures) (year quota price y : ℕ) →
      (year ≢ y) → pair_of (tell_final year quota price f).1.pairs y ≡ pair_of f.pairs y
  -- the conditions stand in the order of their numbers, so the first that holds has the smallest
  pub in_order : (f : Figures) (n quota price : ℕ) →
      Rising (quota_table n quota f) × Rising (price_table n price f) × Rising (final_table n quota price f) × Rising (forget_table n)

-- what forgetting all before a year leaves
pub record ForgettingLaws : Type 0 where
  -- every day from 1 January on, month from January on and year from this one on mean what they meant
  pub later_days_stay : (f : Figures) (year d : ℕ) →
      new_year year ≤ d → quota_on (forget year f).1.quotas d ≡ quota_on f.quotas d
  pub later_months_stay : (f : Figures) (year m : ℕ) →
      month_number year 1 ≤ m → price_of (forget year f).1.prices m ≡ price_of f.prices m
  pub later_years_stay : (f : Figures) (year y : ℕ) →
      year ≤ y → pair_of (forget year f).1.pairs y ≡ pair_of f.pairs y
  -- earlier months and years are silent
  pub earlier_months_silent : (f : Figures) (year m : ℕ) →
      (forget year f).0 ≡ Ok tt → m < month_number year 1 → price_of (forget year f).1.prices m ≡ None
  pub earlier_years_silent : (f : Figures) (year y : ℕ) →
      (forget year f).0 ≡ Ok tt → y < year → pair_of (forget year f).1.pairs y ≡ None
  -- the quota that holds on 1 January is the first one kept: those before it go, which it replaced, and those after it stay
  pub first_kept : (b : Board) (year k : ℕ) →
      (forget year (figures b)).0 ≡ Ok tt →
      k < length (figures b).quotas →
      day_at (figures b).quotas k ≤ new_year year →
      (k + 1 < length (figures b).quotas → new_year year < day_at (figures b).quotas (k + 1)) →
      (forget year (figures b)).1.quotas ≡ drop k (figures b).quotas
  -- where none holds by then, all stay
  pub none_dropped : (b : Board) (year : ℕ) →
      (0 < length (figures b).quotas → new_year year < day_at (figures b).quotas 0) →
      (forget year (figures b)).1.quotas ≡ (figures b).quotas
  -- the last quota stays, so that the next one told is later still
  pub last_stays : (f : Figures) (year : ℕ) → last_day (forget year f).1.quotas ≡ last_day f.quotas
  -- never more is kept than before
  pub never_more : (f : Figures) (year : ℕ) →
      (length (forget year f).1.quotas ≤ length f.quotas)
      × (length (forget year f).1.prices ≤ length f.prices)
      × (length (forget year f).1.pairs ≤ length f.pairs)
  -- the space of a quota that was replaced is used again
  pub quota_again : (b : Board) (year k day quota : ℕ) →
      (forget year (figures b)).0 ≡ Ok tt →
      0 < k → k < length (figures b).quotas → day_at (figures b).quotas k ≤ new_year year →
      is_day day ≡ true → lawful_quota quota ≡ true → last_day (figures b).quotas < day →
      (tell_quota day quota (forget year (figures b)).1).0 ≡ Ok tt
  -- a month and a year that were dropped may be told again
  pub month_again : (b : Board) (year month price : ℕ) →
      (forget year (figures b)).0 ≡ Ok tt →
      month < month_number year 1 → is_some (price_of (figures b).prices month) ≡ true →
      is_month month ≡ true → lawful_price price ≡ true →
      (tell_price month price (forget year (figures b)).1).0 ≡ Ok tt
  pub year_again : (b : Board) (year y quota price : ℕ) →
      (forget year (figures b)).0 ≡ Ok tt →
      y < year → is_some (pair_of (figures b).pairs y) ≡ true →
      is_year y ≡ true → lawful_quota quota ≡ true → lawful_price price ≡ true →
      (tell_final y quota price (forget year (figures b)).1).0 ≡ Ok tt
