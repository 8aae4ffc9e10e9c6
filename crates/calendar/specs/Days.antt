-- Days are counted from 1 January 2019, day 1, to 31 December 2082, day 23,376; months from January 2019, month 1, to 768.
use Rattle.std.specs.Prelude.{ℕ, ◌+◌, ◌-◌, ◌*◌, ◌/◌, ◌%◌, min, Bool, cond, not, ◌&&◌, ◌||◌, List, [], ◌∷◌, take, sum, ◌==◌, nat_le, nat_lt, slice_index}

-- one of the days 1 to 23,376
abbrev pub is_day : ℕ → Bool
is_day d = nat_le 1 d && nat_le d 23376

-- one of the months 1 to 768
abbrev pub is_month : ℕ → Bool
is_month m = nat_le 1 m && nat_le m 768

-- one of the years 2019 to 2082
abbrev pub is_year : ℕ → Bool
is_year y = nat_le 2019 y && nat_le y 2082

-- a leap year: every fourth year, but of the full centuries only every fourth
abbrev pub leap : ℕ → Bool
leap y = y % 4 == 0 && (not (y % 100 == 0) || y % 400 == 0)

-- the number of days of a year
unfoldable pub year_length : ℕ → ℕ
year_length y = cond (leap y) 366 365

-- the first day of a year: 365 days for each year before it, and one more for each leap year among them
unfoldable pub new_year : ℕ → ℕ
new_year y = 1 + 365 * (y - 2019) + ((y - 1) / 4 - 504)

-- the year of a day: four years have 1,461 days, of which a leap year, the last of the four, has the last 366
unfoldable pub year_of : ℕ → ℕ
year_of d = 2017 + 4 * ((d + 729) / 1461) + min ((d + 729) % 1461 / 365) 3

-- the year of a month
unfoldable pub year_of_month : ℕ → ℕ
year_of_month m = 2019 + (m - 1) / 12

-- which month of its year a month is, from 1 to 12
unfoldable pub month_in_year : ℕ → ℕ
month_in_year m = (m - 1) % 12 + 1

-- the month that is month k of year y
unfoldable pub month_number : ℕ → ℕ → ℕ
month_number y k = 12 * (y - 2019) + k

-- the lengths of the twelve months of a leap year, or of another
unfoldable pub month_lengths : Bool → List ℕ
month_lengths l = 31 ∷ cond l 29 28 ∷ 31 ∷ 30 ∷ 31 ∷ 30 ∷ 31 ∷ 31 ∷ 30 ∷ 31 ∷ 30 ∷ 31 ∷ []

-- the length of month k of a leap year, or of another
unfoldable pub length_in_year : Bool → ℕ → ℕ
length_in_year l k = slice_index (month_lengths l) (k - 1)

-- the number of days of a month
unfoldable pub month_length : ℕ → ℕ
month_length m = length_in_year (leap (year_of_month m)) (month_in_year m)

-- how many days of a leap year, or of another, come before its month k
unfoldable pub days_before : Bool → ℕ → ℕ
days_before l k = sum (take (k - 1) (month_lengths l))

-- the first day of a month
unfoldable pub month_start : ℕ → ℕ
month_start m = new_year (year_of_month m) + days_before (leap (year_of_month m)) (month_in_year m)

-- which of the months with these lengths has the day before which they have p days
abbrev pub month_at : List ℕ → ℕ → ℕ
month_at [] p = 0
month_at (n ∷ ns) p = cond (nat_lt p n) 1 (1 + month_at ns (p - n))

-- the month of a day
unfoldable pub month_of : ℕ → ℕ
month_of d = month_number (year_of d) (month_at (month_lengths (leap (year_of d))) (d - new_year (year_of d)))

-- which day of its month a day is, from 1
unfoldable pub day_in_month : ℕ → ℕ
day_in_month d = d - month_start (month_of d) + 1
