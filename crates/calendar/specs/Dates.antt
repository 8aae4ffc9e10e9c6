-- Dates as text: a day as YYYYMMDD, a month as YYYYMM, a year as YYYY, in ASCII digits.
use Rattle.std.specs.Prelude.{ℕ, zero, suc, ◌+◌, ◌-◌, ◌*◌, ◌/◌, ◌%◌, cond, ◌&&◌, List, [], ◌∷◌, ◌++◌, length, Some, None, Ok, Err, Option, Result, ◌==◌, nat_le}
use Rattle.std.specs.Char.{is_ascii_digit}
use Rattle.calendar.specs.declared.dates.DateFault.{DateFault}
use Rattle.calendar.specs.declared.dates.DateFault.TheVariants.{NotDigits, NoSuchDate}
use Rattle.calendar.specs.Days.{is_year, month_of, year_of_month, month_in_year, month_number, month_start, month_length, day_in_month}

-- the last k digits of a number
abbrev pub digits : ℕ → ℕ → List ℕ
digits zero n = []
digits (suc k) n = digits k (n / 10) ++ ((48 + n % 10) ∷ [])

-- the number of which n are the first digits and the text has the others
abbrev pub number_on : ℕ → List ℕ → Option ℕ
number_on n [] = Some n
number_on n (c ∷ cs) = cond (is_ascii_digit c) (number_on (n * 10 + (c - 48)) cs) None

-- the number that a text of so many digits writes
abbrev pub number_in : ℕ → List ℕ → Option ℕ
number_in width text = cond (length text == width) (number_on 0 text) None

-- a month as the number YYYYMM
unfoldable pub month_figure : ℕ → ℕ
month_figure m = 100 * year_of_month m + month_in_year m

-- a day as the number YYYYMMDD
unfoldable pub day_figure : ℕ → ℕ
day_figure d = 100 * month_figure (month_of d) + day_in_month d

-- a year as text
unfoldable pub year_text : ℕ → List ℕ
year_text y = digits 4 y

-- a month as text
unfoldable pub month_text : ℕ → List ℕ
month_text m = digits 6 (month_figure m)

-- a day as text
unfoldable pub date_text : ℕ → List ℕ
date_text d = digits 8 (day_figure d)

-- the year with the number YYYY
unfoldable pub year_figured : ℕ → Result ℕ DateFault
year_figured v = cond (is_year v) (Ok v) (Err NoSuchDate)

-- the month with the number YYYYMM
unfoldable pub month_figured : ℕ → Result ℕ DateFault
month_figured v = cond (is_year (v / 100) && (nat_le 1 (v % 100) && nat_le (v % 100) 12)) (Ok (month_number (v / 100) (v % 100))) (Err NoSuchDate)

-- day n of a month
abbrev pub day_of_month : ℕ → Result ℕ DateFault → Result ℕ DateFault
day_of_month n (Ok m) = cond (nat_le 1 n && nat_le n (month_length m)) (Ok (month_start m + n - 1)) (Err NoSuchDate)
day_of_month n (Err fault) = Err fault

-- the day with the number YYYYMMDD
unfoldable pub day_figured : ℕ → Result ℕ DateFault
day_figured v = day_of_month (v % 100) (month_figured (v / 100))

-- the year with the number that was read, if one was
abbrev pub year_read : Option ℕ → Result ℕ DateFault
year_read (Some v) = year_figured v
year_read None = Err NotDigits

-- the month with the number that was read, if one was
abbrev pub month_read : Option ℕ → Result ℕ DateFault
month_read (Some v) = month_figured v
month_read None = Err NotDigits

-- the day with the number that was read, if one was
abbrev pub day_read : Option ℕ → Result ℕ DateFault
day_read (Some v) = day_figured v
day_read None = Err NotDigits

-- the year that a text says: exactly four digits YYYY, and a year of the calendar
abbrev pub read_year : List ℕ → Result ℕ DateFault
read_year text = year_read (number_in 4 text)

-- the month that a text says: exactly six digits YYYYMM, and a month of the calendar
abbrev pub read_month : List ℕ → Result ℕ DateFault
read_month text = month_read (number_in 6 text)

-- the day that a text says: exactly eight digits YYYYMMDD, and a day of the calendar
abbrev pub read_date : List ℕ → Result ℕ DateFault
read_date text = day_read (number_in 8 text)
