-- The months over the years: where each begins, and which of them has a day.
use Rattle.std.proofs.Common.{◌≡◌, ℕ, zero, suc, ◌+◌, ◌-◌, ◌<◌, ◌≤◌, true, ◌&&◌, leb, refl, ap, ◌∙◌, subst, ⊎_elim, arith}
use Rattle.std.proofs.lemmas.Bool.{and_parts, and_from, leb-true, le-leb, cases_lt, cases_order}
use Rattle.calendar.specs.Days.{leap, new_year, year_of, year_of_month, month_in_year, month_number, month_lengths, month_length, days_before, month_start, month_at, month_of, day_in_month}
use Rattle.calendar.proofs.Months.{next_is, none_before, all_before, at_most_31, at_most_all, placed}
use Rattle.calendar.proofs.Years.{year_from_2019, year_to_2082, year-begun, year_lasts, years_rise, years_follow, year_lasts_from, new_year_high}

-- a test that a number lies between two others tells both
pub between : (a n b : ℕ) → (leb a n && leb n b) ≡ true → (a ≤ n) × (n ≤ b)
between a n b h = let p = and_parts (leb a n) (leb n b) h in (leb-true a n p.0, leb-true n b p.1)

pub tested : (a n b : ℕ) → a ≤ n → n ≤ b → (leb a n && leb n b) ≡ true
tested a n b h k = and_from (leb a n) (leb n b) (le-leb a n h) (le-leb n b k)

-- month k of year y lies in that year, and is its month k
pub year_of-number : (y k : ℕ) → 2019 ≤ y → 1 ≤ k → k ≤ 12 → year_of_month (month_number y k) ≡ y
unfolding year_of_month month_number
year_of-number y k from low high = omega arith

pub month_of-number : (y k : ℕ) → 1 ≤ k → k ≤ 12 → month_in_year (month_number y k) ≡ k
unfolding month_in_year month_number
month_of-number y k low high = omega arith

-- a month is the month of its year that it is
pub number_of_month : (m : ℕ) → 1 ≤ m → month_number (year_of_month m) (month_in_year m) ≡ m
unfolding year_of_month month_in_year month_number
number_of_month m low = omega arith

-- where month k of year y begins
pub start_of_number : (y k : ℕ) → 2019 ≤ y → 1 ≤ k → k ≤ 12 → month_start (month_number y k) ≡ new_year y + days_before (leap y) k
unfolding month_start
start_of_number y k from low high =
    let a = year_of-number y k from low high in
    let b = month_of-number y k low high in
    cc

-- the month after month k of year y, in the year and over its end
next_within : (y k : ℕ) → month_number y k + 1 ≡ month_number y (k + 1)
unfolding month_number
next_within y k = omega arith

next_beyond : (y : ℕ) → 2019 ≤ y → month_number y 12 + 1 ≡ month_number (y + 1) 1
unfolding month_number
next_beyond y from = omega arith

start_within : (y k : ℕ) → 2019 ≤ y → k < 12 → month_start (month_number y k + 1) ≡ new_year y + days_before (leap y) (k + 1)
start_within y k from high =
    ap month_start (next_within y k) ∙ start_of_number y (k + 1) from (omega arith) (omega arith)

start_beyond : (y : ℕ) → 2019 ≤ y → y ≤ 2082 → month_start (month_number y 12 + 1) ≡ new_year y + days_before (leap y) 13
start_beyond y from to =
    let a = ap month_start (next_beyond y from) in
    let b = start_of_number (y + 1) 1 (omega arith) (omega arith) (omega arith) in
    let n = none_before (leap (y + 1)) in
    let e = years_follow y from to in
    let t = all_before (leap y) in
    omega arith

pub start_after : (y k : ℕ) → 2019 ≤ y → y ≤ 2082 → k ≤ 12 → month_start (month_number y k + 1) ≡ new_year y + days_before (leap y) (k + 1)
start_after y k from to high =
    ⊎_elim
    (λ inside. start_within y k from inside)
    (λ last. let twelve : 12 ≡ k = omega arith in subst (λ (j : ℕ). month_start (month_number y j + 1) ≡ new_year y + days_before (leap y) (j + 1)) twelve (start_beyond y from to))
    (cases_lt k 12)

-- a month of the calendar has a year of the calendar, and is one of its twelve
pub year_from : (m : ℕ) → 2019 ≤ year_of_month m
unfolding year_of_month
year_from m = omega arith

pub year_to : (m : ℕ) → m ≤ 768 → year_of_month m ≤ 2082
unfolding year_of_month
year_to m high = omega arith

pub twelve_low : (m : ℕ) → 1 ≤ month_in_year m
unfolding month_in_year
twelve_low m = omega arith

pub twelve_high : (m : ℕ) → month_in_year m ≤ 12
unfolding month_in_year
twelve_high m = omega arith

-- each month begins its length after the one before
pub months_follow : (m : ℕ) → 1 ≤ m → m ≤ 768 → month_start (m + 1) ≡ month_start m + month_length m
unfolding month_start month_length
months_follow m low high =
    let y = year_of_month m in
    let k = month_in_year m in
    let e = number_of_month m low in
    let a : month_start (m + 1) ≡ new_year y + days_before (leap y) (k + 1) = subst (λ (n : ℕ). month_start (n + 1) ≡ new_year y + days_before (leap y) (k + 1)) e (start_after y k (year_from m) (year_to m high) (twelve_high m)) in
    let n = next_is (leap y) k (twelve_low m) (twelve_high m) in
    omega arith

-- a day of the calendar is in month k of its year, and the month has begun and lasts
pub record Lies (d k : ℕ) : Type 0 where
  pub is : month_of d ≡ month_number (year_of d) k
  pub low : 1 ≤ k
  pub high : k ≤ 12
  pub begun : month_start (month_of d) ≤ d
  pub lasts : d < month_start (month_of d + 1)

abbrev pub in_year : ℕ → ℕ
in_year d = month_at (month_lengths (leap (year_of d))) (d - new_year (year_of d))

month_of_is : (d : ℕ) → month_of d ≡ month_number (year_of d) (in_year d)
unfolding month_of
month_of_is d = refl

pub lies : (d : ℕ) → 1 ≤ d → d ≤ 23376 → Lies d (in_year d)
lies d low high =
    let y = year_of d in
    let k = in_year d in
    let is = month_of_is d in
    let from = year_from_2019 d low in
    let to = year_to_2082 d high in
    let p = placed (leap y) (d - new_year y) (year_lasts_from d low high) in
    let started = year-begun d low high in
    let this : month_start (month_of d) ≡ new_year y + days_before (leap y) k = ap month_start is ∙ start_of_number y k from p.low p.high in
    let next : month_start (month_of d + 1) ≡ new_year y + days_before (leap y) (k + 1) = ap (λ m. month_start (m + 1)) is ∙ start_after y k from to p.high in
    let pb = p.begun in
    let pl = p.lasts in
    record { is = is; low = p.low; high = p.high; begun = omega arith; lasts = omega arith }

pub month_begun : (d : ℕ) → 1 ≤ d → d ≤ 23376 → month_start (month_of d) ≤ d
month_begun d low high = (lies d low high).begun

pub month_lasts : (d : ℕ) → 1 ≤ d → d ≤ 23376 → d < month_start (month_of d + 1)
month_lasts d low high = (lies d low high).lasts

-- a day's month lies in the day's year
pub month-year : (d : ℕ) → 1 ≤ d → d ≤ 23376 → year_of_month (month_of d) ≡ year_of d
month-year d low high =
    let l = lies d low high in
    ap year_of_month l.is ∙ year_of-number (year_of d) (in_year d) (year_from_2019 d low) l.low l.high

pub month_low : (d : ℕ) → 1 ≤ d → d ≤ 23376 → 1 ≤ month_of d
unfolding month_number
month_low d low high = let l = lies d low high in omega (arith, l.is, l.low)

pub month_high : (d : ℕ) → 1 ≤ d → d ≤ 23376 → month_of d ≤ 768
unfolding month_number
month_high d low high = let l = lies d low high in omega (arith, l.is, l.high, year_to_2082 d high)

pub january : (y : ℕ) → 2019 ≤ y → month_start (month_number y 1) ≡ new_year y
january y from =
    let b = start_of_number y 1 from (omega arith) (omega arith) in
    let n = none_before (leap y) in
    omega arith

-- a month has at most 31 days
pub length_high : (m : ℕ) → month_length m ≤ 31
unfolding month_length
length_high m = at_most_31 (leap (year_of_month m)) (month_in_year m) (twelve_low m) (twelve_high m)

-- which day of its month a day is
pub day_low : (d : ℕ) → 1 ≤ day_in_month d
unfolding day_in_month
day_low d = omega arith

pub day_high : (d : ℕ) → 1 ≤ d → d ≤ 23376 → day_in_month d ≤ month_length (month_of d)
unfolding day_in_month
day_high d low high =
    let l = lies d low high in
    let e = months_follow (month_of d) (month_low d low high) (month_high d low high) in
    omega (arith, l.begun, l.lasts)

-- a day is so many days after the start of its month
pub day_back : (d : ℕ) → 1 ≤ d → d ≤ 23376 → month_start (month_of d) + day_in_month d - 1 ≡ d
unfolding day_in_month
day_back d low high = let l = lies d low high in omega (arith, l.begun)

-- the calendar's months end with the calendar
pub month_end : (m : ℕ) → 1 ≤ m → m ≤ 768 → month_start (m + 1) ≤ 23377
month_end m low high =
    let y = year_of_month m in
    let k = month_in_year m in
    let e = number_of_month m low in
    let a : month_start (m + 1) ≡ new_year y + days_before (leap y) (k + 1) = subst (λ (n : ℕ). month_start (n + 1) ≡ new_year y + days_before (leap y) (k + 1)) e (start_after y k (year_from m) (year_to m high) (twelve_high m)) in
    let b = at_most_all (leap y) k (twelve_low m) (twelve_high m) in
    let f = years_follow y (year_from m) (year_to m high) in
    let n = new_year_high (y + 1) (omega (arith, year_to m high)) in
    omega arith

pub month_within : (m : ℕ) → 1 ≤ m → m ≤ 768 → month_start m + month_length m ≤ 23377
month_within m low high = omega (arith, months_follow m low high, month_end m low high)

pub month_begin : (m : ℕ) → 1 ≤ month_start m
unfolding month_start new_year
month_begin m = omega arith

-- a later month begins no earlier
starts_rise_by : (a n : ℕ) → 1 ≤ a → a + n ≤ 769 → month_start a ≤ month_start (a + n)
starts_rise_by a zero low high =
    let none : a + 0 ≡ a = omega arith in
    let same = ap month_start none in
    omega arith
starts_rise_by a (suc n) low high =
    let before = starts_rise_by a n low (omega arith) in
    let follow = months_follow (a + n) (omega arith) (omega arith) in
    let one : a + suc n ≡ a + n + 1 = omega arith in
    let same = ap month_start one in
    omega arith

starts_rise : (a b : ℕ) → 1 ≤ a → a ≤ b → b ≤ 769 → month_start a ≤ month_start b
starts_rise a b low order high =
    let sum : a + (b - a) ≡ b = omega arith in
    let same = ap month_start sum in
    omega (arith, starts_rise_by a (b - a) low (omega arith))

-- a day lies in no month but its own
pub month_alone : (d m : ℕ) → 1 ≤ m → m ≤ 768 → month_start m ≤ d → d < month_start (m + 1) → month_of d ≡ m
month_alone d m low high begun lasts =
    let from : 1 ≤ d = omega (arith, month_begin m) in
    let to : d ≤ 23376 = omega (arith, month_end m low high) in
    let l = lies d from to in
    let first = month_low d from to in
    let last = month_high d from to in
    ⊎_elim
    (λ same. same)
    (⊎_elim
    (λ earlier. absurd (omega (arith, l.lasts, starts_rise (month_of d + 1) m (omega arith) (omega arith) (omega arith))))
    (λ later. absurd (omega (arith, l.begun, starts_rise (m + 1) (month_of d) (omega arith) (omega arith) (omega arith)))))
    (cases_order (month_of d) m)

-- what the laws of the calendar follow from
pub ruleset calendar_steps = (years_follow, january, months_follow, year_from_2019, year_to_2082, year-begun, year_lasts, month_low, month_high, month_begun, month_lasts, month-year, years_rise)
