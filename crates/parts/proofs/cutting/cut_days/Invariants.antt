use Rattle.std.proofs.Common.{◌≡◌, ◌-◌, ◌≤◌, length}
use Rattle.books.specs.Enrolments.{percent_on}
use Rattle.parts.specs.Cutting.{cut, packed}
use Rattle.parts.proofs.cutting.cut_days.Given as goal

abbrev pub invariant-loop-day : goal.invariant-loop-day
invariant-loop-day g l =
    (l.parts ≡ packed (cut (g.S.Current.quota l.source) (percent_on l.enrolment) l.first (l.day - l.first)))
    × (length (cut (g.S.Current.quota l.source) (percent_on l.enrolment) l.first (l.day - l.first)) ≤ 4)
