use Rattle.std.proofs.Common.{◌≡◌, ◌^◌, ◌<◌, drop}
use Rattle.calendar.specs.Dates.{number_on, number_in}
use Rattle.calendar.proofs.dates.number_in.Given as goal

-- what is left, read on after the number, gives the answer
abbrev pub invariant-loop-digit : goal.invariant-loop-digit
invariant-loop-digit l = (l.number < 10 ^ l.digit-index) × (number_on l.number (drop l.digit-index l.text) ≡ number_in l.width l.text)
