-- The hours of a day: 24, but for the two days on which the clocks are changed.
use Rattle.std.specs.Prelude.{ℕ, ◌+◌, ◌-◌, ◌%◌, Bool, cond, ◌&&◌, ◌==◌, nat_le}
use Rattle.calendar.specs.Days.{month_of, month_in_year, month_start}

-- a Sunday: day 1 is a Tuesday
abbrev pub sunday : ℕ → Bool
sunday d = (d - 1) % 7 == 5

-- the last Sunday of its month: a week later the next month has begun
abbrev pub last_sunday : ℕ → Bool
last_sunday d = sunday d && nat_le (month_start (month_of d + 1)) (d + 7)

-- the hours of a day: 23 on the last Sunday of March, 25 on the last Sunday of October, and else 24
unfoldable pub hours_of : ℕ → ℕ
hours_of d = cond (last_sunday d) (cond (month_in_year (month_of d) == 3) 23 (cond (month_in_year (month_of d) == 10) 25 24)) 24
