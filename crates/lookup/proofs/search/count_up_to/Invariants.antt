use Rattle.std.proofs.Common.{◌-◌, ◌≤◌, length}
use Rattle.lookup.specs.Order.{Rising}
use Rattle.lookup.proofs.Parting.{Halved}
use Rattle.lookup.proofs.search.count_up_to.Given as goal

-- what lies outside the two ends is settled
abbrev pub invariant-loop-low : goal.invariant-loop-low
invariant-loop-low g l = (l.low ≤ l.high) × (l.high ≤ length l.items) × (Rising g.T.Keyed.order l.items → Halved g.T.Keyed.order l.limit l.items l.low l.high)

abbrev pub decreases-loop-low : goal.decreases-loop-low
decreases-loop-low g l = l.high - l.low
