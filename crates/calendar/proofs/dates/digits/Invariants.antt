use Rattle.std.proofs.Common.{◌≡◌, ◌++◌, length, drop}
use Rattle.calendar.specs.Dates.{digits}
use Rattle.calendar.proofs.dates.digits.Given as goal

-- the digits of what is left, before those that are written, are the digits of the number
abbrev pub invariant-loop-place : goal.invariant-loop-place
invariant-loop-place g l = (length l.text ≡ g.row.N) × (digits l.place l.rest ++ drop l.place l.text ≡ digits g.row.N l.number)
