-- The figures that a board keeps, and what they say of a day, a month and a year.
use Rattle.std.specs.Prelude.{ℕ, ◌-◌, Bool, cond, List, [], ◌∷◌, length, Option, nat_le, slice_index_or}
use Rattle.std.specs.List.{list_any}
use Rattle.std.specs.Option.{option_map}
use Rattle.sources.specs.declared.figures.QuotaFrom.{QuotaFrom}
use Rattle.sources.specs.declared.figures.MonthPrice.{MonthPrice}
use Rattle.sources.specs.declared.figures.FinalPair.{FinalPair}
use Rattle.sources.specs.declared.figures.YearFigures.{YearFigures}
use Rattle.lookup.specs.Order.{Rising, first_with, last_up_to}

-- what holds on a day: the last quota told whose day is on or before it
abbrev pub holding : List QuotaFrom → ℕ → Option QuotaFrom
holding qs d = last_up_to (λ q. q.from) d qs

-- the quota on a day
abbrev pub quota_on : List QuotaFrom → ℕ → Option ℕ
quota_on qs d = option_map (λ q. q.quota) (holding qs d)

-- the price of a month: the one told for it
abbrev pub price_of : List MonthPrice → ℕ → Option ℕ
price_of ps m = option_map (λ p. p.price) (first_with (λ p. p.month) m ps)

-- the final quota and the market price of a year: the pair told for it
abbrev pub pair_of : List FinalPair → ℕ → Option YearFigures
pair_of ps y = option_map (λ p. p.figures) (first_with (λ p. p.year) y ps)

-- does one of these quotas begin on or before a day?
abbrev pub begun_by : ℕ → List QuotaFrom → Bool
begun_by d qs = list_any (λ q. nat_le q.from d) qs

-- the quotas that no later one replaces on or before a day
abbrev pub unreplaced : ℕ → List QuotaFrom → List QuotaFrom
unreplaced d [] = []
unreplaced d (q ∷ qs) = cond (begun_by d qs) (unreplaced d qs) (q ∷ unreplaced d qs)

-- the day from which the quota at a place holds
abbrev pub day_at : List QuotaFrom → ℕ → ℕ
day_at qs k = (slice_index_or qs k (record { from = 0; quota = 0 })).from

-- the quota at a place
abbrev pub quota_at : List QuotaFrom → ℕ → ℕ
quota_at qs k = (slice_index_or qs k (record { from = 0; quota = 0 })).quota

-- the month and the price at a place
abbrev pub month_at : List MonthPrice → ℕ → ℕ
month_at ps k = (slice_index_or ps k (record { month = 0; price = 0 })).month

abbrev pub price_at : List MonthPrice → ℕ → ℕ
price_at ps k = (slice_index_or ps k (record { month = 0; price = 0 })).price

-- the day of the last quota told; 0 before any is
abbrev pub last_day : List QuotaFrom → ℕ
last_day qs = day_at qs (length qs - 1)

-- each quota holds from a later day than those told before it
abbrev pub DaysRise : List QuotaFrom → Type 0
DaysRise qs = Rising (λ q. q.from) qs
