-- What the definitions of days, months and years come to.
use Rattle.std.specs.Prelude.{◌≡◌, ℕ, ◌+◌, ◌<◌, ◌≤◌, true, List, IfOk, Ok}
use Rattle.calendar.specs.Days.{is_day, is_month, is_year, year_length, new_year, year_of, year_of_month, month_number, month_length, month_start, month_of, day_in_month}
use Rattle.calendar.specs.Hours.{hours_of}
use Rattle.calendar.specs.Dates.{date_text, month_text, year_text, read_date, read_month, read_year}

-- the calendar begins with the year 2019
abbrev pub Begins : Type 0
Begins = new_year 2019 ≡ 1

-- each year begins its length after the one before
abbrev pub YearsFollow : Type 0
YearsFollow = (y : ℕ) → is_year y ≡ true → new_year (y + 1) ≡ new_year y + year_length y

-- the last day of 2082 is day 23,376
abbrev pub Ends : Type 0
Ends = new_year 2082 + year_length 2082 ≡ 23377

-- January begins with the year
abbrev pub JanuaryBeginsYear : Type 0
JanuaryBeginsYear = (y : ℕ) → is_year y ≡ true → month_start (month_number y 1) ≡ new_year y

-- each month begins its length after the one before
abbrev pub MonthsFollow : Type 0
MonthsFollow = (m : ℕ) → is_month m ≡ true → month_start (m + 1) ≡ month_start m + month_length m

-- a day lies in its year, which is a year of the calendar
abbrev pub DaysLieInYears : Type 0
DaysLieInYears = (d : ℕ) → is_day d ≡ true → (is_year (year_of d) ≡ true) × (new_year (year_of d) ≤ d) × (d < new_year (year_of d + 1))

-- a day lies in its month, which is a month of the calendar
abbrev pub DaysLieInMonths : Type 0
DaysLieInMonths = (d : ℕ) → is_day d ≡ true → (is_month (month_of d) ≡ true) × (month_start (month_of d) ≤ d) × (d < month_start (month_of d + 1))

-- a day's month is in the day's year
abbrev pub MonthsLieInYears : Type 0
MonthsLieInYears = (d : ℕ) → is_day d ≡ true → year_of_month (month_of d) ≡ year_of d

-- a later day has no earlier year
abbrev pub YearsRise : Type 0
YearsRise = (d e : ℕ) → d ≤ e → year_of d ≤ year_of e

-- 31 March 2020 is day 456, the next month begins on day 457, and February 2021 on day 763
abbrev pub WorkedDays : Type 0
WorkedDays = (month_of 456 ≡ 15) × (day_in_month 456 ≡ 31) × (month_start 16 ≡ 457) × (month_start 26 ≡ 763)

-- day 90, the last Sunday of March 2019, has 23 hours, and day 300, the last Sunday of October, has 25
abbrev pub WorkedHours : Type 0
WorkedHours = (hours_of 90 ≡ 23) × (hours_of 300 ≡ 25)

-- a day that is written is read again
abbrev pub DatesReturn : Type 0
DatesReturn = (d : ℕ) → is_day d ≡ true → read_date (date_text d) ≡ Ok d

-- a month that is written is read again
abbrev pub MonthsReturn : Type 0
MonthsReturn = (m : ℕ) → is_month m ≡ true → read_month (month_text m) ≡ Ok m

-- a year that is written is read again
abbrev pub YearsReturn : Type 0
YearsReturn = (y : ℕ) → is_year y ≡ true → read_year (year_text y) ≡ Ok y

-- a day that is read is a day of the calendar
abbrev pub ReadsDays : Type 0
ReadsDays = (text : List ℕ) → IfOk (read_date text) (λ d. is_day d ≡ true)

-- a month that is read is a month of the calendar
abbrev pub ReadsMonths : Type 0
ReadsMonths = (text : List ℕ) → IfOk (read_month text) (λ m. is_month m ≡ true)

-- a year that is read is a year of the calendar
abbrev pub ReadsYears : Type 0
ReadsYears = (text : List ℕ) → IfOk (read_year text) (λ y. is_year y ≡ true)

-- a day is read from no text but the one that is written of it
abbrev pub OneTextADay : Type 0
OneTextADay = (text : List ℕ) (d : ℕ) → read_date text ≡ Ok d → text ≡ date_text d

-- a month is read from no text but the one that is written of it
abbrev pub OneTextAMonth : Type 0
OneTextAMonth = (text : List ℕ) (m : ℕ) → read_month text ≡ Ok m → text ≡ month_text m

-- a year is read from no text but the one that is written of it
abbrev pub OneTextAYear : Type 0
OneTextAYear = (text : List ℕ) (y : ℕ) → read_year text ≡ Ok y → text ≡ year_text y
