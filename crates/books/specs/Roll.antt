-- The roll: what each of the places 1 to 250 is enrolled with.
use Rattle.std.specs.Prelude.{◌≡◌, ℕ, ◌-◌, Bool, cond, not, ◌&&◌, ◌||◌, List, [], ◌∷◌, Some, None, Ok, Err, Option, Result, ◌≢◌, nat_le, nat_lt, slice_index_or, slice_set}
use Rattle.amounts.specs.declared.refusal.Refusal.{Refusal}
use Rattle.amounts.specs.declared.refusal.Refusal.TheVariants.{NoPlace, BadDay, BadPercent}
use Rattle.amounts.specs.Tables.{Table, Outcome, decide}
use Rattle.calendar.specs.Days.{is_day}
use Rattle.books.specs.declared.enrolment.Enrolment.{Enrolment}
use Rattle.books.specs.declared.roll.Roll.{Roll}
use Rattle.books.specs.Enrolments.{percent_on}

-- one of the places 1 to 250
abbrev pub is_place : ℕ → Bool
is_place place = nat_le 1 place && nat_le place 250

-- what the places are enrolled with, place 1 first
abbrev pub places : Roll → List (Option Enrolment)
places roll = roll.table

-- what a place is enrolled with; nothing for what is no place
abbrev pub enrolled : List (Option Enrolment) → ℕ → Option Enrolment
enrolled ps place = cond (is_place place) (slice_index_or ps (place - 1) None) None

-- the conditions that refuse an enrolment
abbrev pub enrol_refusals : ℕ → Enrolment → Table
enrol_refusals place e =
    (not (is_place place), NoPlace)
    ∷ (not (is_day e.first) || (not (is_day e.last) || nat_lt e.last e.first), BadDay)
    ∷ (nat_lt 100 e.percent, BadPercent)
    ∷ []

-- refused, nothing changes; taken, the place has the enrolment
abbrev pub enrol_outcome : ℕ → Enrolment → List (Option Enrolment) → Outcome (Unit {0}) (List (Option Enrolment))
enrol_outcome place e ps = decide (enrol_refusals place e) ps tt (slice_set ps (place - 1) (Some e))

-- the percent of a place on a day, 0 where it is not enrolled
abbrev pub percent_at : List (Option Enrolment) → ℕ → ℕ → ℕ
percent_at ps place day = elim (enrolled ps place) [ Some e ↦ percent_on e day | None ↦ 0 ]

-- taken, the place's percent on each day is as told; refused, the roll is as it was
abbrev pub Told : ℕ → Enrolment → List (Option Enrolment) → List (Option Enrolment) → Result (Unit {0}) Refusal → Type 0
Told place e before after (Ok _) = (day : ℕ) → percent_at after place day ≡ percent_on e day
Told place e before after (Err _) = after ≡ before

-- every other place is as it was
abbrev pub Others : ℕ → List (Option Enrolment) → List (Option Enrolment) → Type 0
Others place before after = (other : ℕ) → (other ≢ place) → enrolled after other ≡ enrolled before other
