-- What an hourly register means, which readings it takes, and which years have one.
use Rattle.std.specs.Prelude.{ℕ, zero, suc, ◌+◌, ◌-◌, Bool, true, cond, not, ◌&&◌, ◌||◌, List, [], ◌∷◌, replicate, Some, None, Ok, Err, Option, Result, ◌==◌, nat_le, nat_lt, slice_index_or, slice_set}
use Rattle.amounts.specs.declared.refusal.Refusal.{Refusal}
use Rattle.amounts.specs.declared.refusal.Refusal.TheVariants.{BadDay, YearNotServed, BadHour}
use Rattle.amounts.specs.Tables.{Table, Outcome, decide}
use Rattle.calendar.specs.Days.{is_day, is_year, new_year, year_of}
use Rattle.calendar.specs.Hours.{hours_of}
use Rattle.meters.specs.declared.register.day.Day.{Day}
use Rattle.meters.specs.declared.register.held.Register.{Register}
use Rattle.meters.specs.Marks.{unread_day, marked, all_marked, with_hour}
use Rattle.meters.specs.Spans.{day_count}

-- a year, and a table of its days from the first on
pub record Readings : Type 0 where
  pub year : ℕ
  pub days : List Day

-- what a register holds
abbrev pub readings : Register → Readings
readings m = record { year = m.year; days = m.days }

-- a day of the year
abbrev pub of_year : (year day : ℕ) → Bool
of_year year day = is_day day && year_of day == year

-- what is read of a day
abbrev pub on_day : Readings → ℕ → Day
on_day r day = slice_index_or r.days (day - new_year r.year) unread_day

-- a day is read: it is a day of the year, and each of its hours is read
abbrev pub is_read : Readings → ℕ → Bool
is_read r day = of_year r.year day && all_marked (on_day r day) (hours_of day)

-- each of n days from day a on is read
abbrev pub all_read : Readings → (a n : ℕ) → Bool
all_read r a zero = true
all_read r a (suc n) = is_read r (a + n) && all_read r a n

-- the kWh of n days from day a on
abbrev pub sum_of : Readings → (a n : ℕ) → ℕ
sum_of r a zero = 0
sum_of r a (suc n) = sum_of r a n + (on_day r (a + n)).total

-- a span of days that are all read means the sum of their kWh; any other is silent
abbrev pub register_kwh : Readings → (a b : ℕ) → Option ℕ
register_kwh r a b = cond (nat_le a b && all_read r a (day_count a b)) (Some (sum_of r a (day_count a b))) None

-- what a register means
abbrev pub register_means : Register → ℕ → ℕ → Option ℕ
register_means m = register_kwh (readings m)

-- what refuses a reading: no day of the year; no hour of that day, an hour that is read, or more than 10,000 kWh
abbrev pub hour_table : (day hour kwh : ℕ) → Readings → Table
hour_table day hour kwh r =
    (not (of_year r.year day), BadDay)
    ∷ ((nat_le (hours_of day) hour || (marked (on_day r day) hour || nat_lt 10000 kwh), BadHour)
    ∷ [])

-- one hour more is read, and every other day stays
abbrev pub with_reading : (day hour kwh : ℕ) → Readings → Readings
with_reading day hour kwh r =
    record { year = r.year; days = slice_set r.days (day - new_year r.year) (with_hour hour kwh (on_day r day)) }

-- reading an hour
abbrev pub read_hour : (day hour kwh : ℕ) → Readings → Outcome (Unit {0}) Readings
read_hour day hour kwh r = decide (hour_table day hour kwh r) r tt (with_reading day hour kwh r)

-- the register of a year before any reading: room for 366 days
unfoldable pub unread : ℕ → Readings
unread year = record { year = year; days = replicate 366 unread_day }

-- what refuses a register: no year of the calendar
abbrev pub register_table : ℕ → Table
register_table year = (not (is_year year), YearNotServed) ∷ []

-- what a register holds where one was made, or the refusal
abbrev pub opened : Result Register Refusal → Result Readings Refusal
opened (Ok m) = Ok (readings m)
opened (Err e) = Err e
