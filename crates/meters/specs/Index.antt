-- What a meter with two indexes means, and when two indexes make one.
use Rattle.std.specs.Prelude.{◌≡◌, ℕ, ◌+◌, ◌-◌, ◌*◌, ◌/◌, ◌<◌, ◌≤◌, cond, not, ◌&&◌, ◌||◌, ◌⊎◌, [], ◌∷◌, Some, None, Ok, Err, Option, Result, nat_le, nat_lt}
use Rattle.amounts.specs.declared.refusal.Refusal.{Refusal}
use Rattle.amounts.specs.declared.refusal.Refusal.TheVariants.{BadDay, TooMuchEnergy}
use Rattle.amounts.specs.Tables.{Table}
use Rattle.meters.specs.declared.held.IndexMeter.{IndexMeter}
use Rattle.meters.specs.Spans.{day_count, meter_days}

-- what the first k of so many days have of a total: the whole part of total × k ÷ days
abbrev pub share : (total days k : ℕ) → ℕ
share total days k = (total * k) / days

-- a span within the days from first to last has the share up to its end less the share before it; any other is silent
abbrev pub index_kwh : (first last total : ℕ) → (a b : ℕ) → Option ℕ
index_kwh first last total a b =
    cond (nat_le first a && (nat_le a b && nat_le b last))
    (Some (share total (day_count first last) (day_count first b) - share total (day_count first last) (a - first)))
    None

-- what a meter with two indexes means
abbrev pub index_means : IndexMeter → ℕ → ℕ → Option ℕ
index_means m = index_kwh m.first m.last m.total

-- two indexes make no meter where the days are none that a meter can have, the index falls, or they are too far apart
abbrev pub index_table : (first last before after : ℕ) → Table
index_table first last before after =
    (not (meter_days first last), BadDay)
    ∷ ((nat_lt after before || nat_lt 4000000 (after - before), TooMuchEnergy)
    ∷ [])

-- a meter's days, and the kWh between its indexes
pub record Known : Type 0 where
  pub first : ℕ
  pub last : ℕ
  pub total : ℕ

-- what is known of a meter where one was made, or the refusal
abbrev pub known : Result IndexMeter Refusal → Result Known Refusal
known (Ok m) = Ok (record { first = m.first; last = m.last; total = m.total })
known (Err e) = Err e

-- a share is the largest whole number of kWh that is no more than k of the days would have of the total
abbrev pub WholePart : Type 0
WholePart =
    (total days k : ℕ) → 0 < days → (share total days k * days ≤ total * k) × (total * k < (share total days k + 1) * days)

-- the first k of a meter's days mean their share
abbrev pub FirstDays : Type 0
FirstDays =
    (m : IndexMeter) (k : ℕ) → 0 < k → k ≤ day_count m.first m.last → index_means m m.first (m.first + k - 1) ≡ Some (share m.total (day_count m.first m.last) k)

-- a span that leaves the meter's days is silent
abbrev pub OutsideSilent : Type 0
OutsideSilent = (m : IndexMeter) (a b : ℕ) → (a < m.first) ⊎ (m.last < b) → index_means m a b ≡ None
