-- What a place is enrolled with.
use Rattle.std.specs.Prelude.{ℕ, cond, ◌&&◌, Some, None, Option, nat_le}
use Rattle.books.specs.declared.enrolment.Enrolment.{Enrolment}

-- the percent from the first to the last day, and 0 on other days
abbrev pub percent_on : Enrolment → ℕ → ℕ
percent_on e day = cond (nat_le e.first day && nat_le day e.last) e.percent 0

-- the percent, 0 where there is no enrolment
abbrev pub percent_of : Option Enrolment → ℕ
percent_of None = 0
percent_of (Some e) = e.percent
