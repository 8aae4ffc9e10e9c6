-- The years: where each begins, and which of them has a day.
use Rattle.std.proofs.Common.{◌≡◌, ℕ, ◌+◌, ◌-◌, ◌%◌, ◌<◌, ◌≤◌, cond, eqb, arith}
use Rattle.std.proofs.lemmas.Bool.Decides.{nat_tests}
use Rattle.calendar.specs.Days.{leap, year_length, new_year, year_of}

-- a day of the calendar has a year of the calendar
pub year_from_2019 : (d : ℕ) → 1 ≤ d → 2019 ≤ year_of d
unfolding year_of
year_from_2019 d low = omega arith

pub year_to_2082 : (d : ℕ) → d ≤ 23376 → year_of d ≤ 2082
unfolding year_of
year_to_2082 d high = omega arith

-- a later day has no earlier year
pub years_rise : (d e : ℕ) → d ≤ e → year_of d ≤ year_of e
unfolding year_of
years_rise d e h = omega arith

-- a day is not before its year
pub year-begun : (d : ℕ) → 1 ≤ d → d ≤ 23376 → new_year (year_of d) ≤ d
unfolding year_of new_year
year-begun d low high = omega arith

-- a day is before the next year
pub year_lasts : (d : ℕ) → 1 ≤ d → d ≤ 23376 → d < new_year (year_of d + 1)
unfolding year_of new_year
year_lasts d low high = omega arith

-- no full century is a year of the calendar
leap_fourth : (y : ℕ) → 2019 ≤ y → y ≤ 2082 → leap y ≡ eqb (y % 4) 0
leap_fourth y low high = grind (arith, nat_tests)

-- each year begins its length after the one before
pub years_follow : (y : ℕ) → 2019 ≤ y → y ≤ 2082 → new_year (y + 1) ≡ new_year y + cond (leap y) 366 365
unfolding new_year
years_follow y low high = let e = leap_fourth y low high in grind (arith, nat_tests)

-- a day is in its year
pub year_lasts_from : (d : ℕ) → 1 ≤ d → d ≤ 23376 → d - new_year (year_of d) < cond (leap (year_of d)) 366 365
year_lasts_from d low high =
    let e = years_follow (year_of d) (year_from_2019 d low) (year_to_2082 d high) in
    let h = year_lasts d low high in
    let b = year-begun d low high in
    omega arith

pub year_holds : (d : ℕ) → 1 ≤ d → d ≤ 23376 → d - new_year (year_of d) < year_length (year_of d)
unfolding year_length
year_holds d low high = year_lasts_from d low high

-- where a day is in its year
pub ruleset place_in_year = (year-begun, year_holds)

-- no year of the calendar, nor the next, begins after the calendar's last day but one
pub new_year_high : (y : ℕ) → y ≤ 2083 → new_year y ≤ 23377
unfolding new_year
new_year_high y h = omega arith
