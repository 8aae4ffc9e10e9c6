use Rattle.std.proofs.Common.{◌≡◌, ℕ, ◌≤◌, length, subst, arith}
use Rattle.lookup.specs.Order.{Rising, Parted}
use Rattle.lookup.proofs.Parting.{Halved, low_raised, high_lowered, place_counts}
use Rattle.lookup.proofs.search.count_up_to.Goals as goal

pub loop-low-preserved-then-is_up_to : goal.loop-low-preserved-then-is_up_to
loop-low-preserved-then-is_up_to g c =
    let l = c.loop-low in
    let x = c.index-items-middle in
    let up = c.is_up_to in
    (omega arith, omega arith, λ rise. low_raised g.T.Keyed.order c.args.limit c.args.items.now l.low l.high c.halfway-middle.result x.result up.result rise (omega arith) x.is up.ensures c.if-is_up_to.true (l.invariant.2 rise))

pub loop-low-preserved : goal.loop-low-preserved
loop-low-preserved g c =
    let l = c.loop-low in
    let x = c.index-items-middle in
    let up = c.is_up_to in
    (omega arith, omega arith, λ rise. high_lowered g.T.Keyed.order c.args.limit c.args.items.now l.low l.high c.halfway-middle.result x.result up.result rise (omega arith) x.is up.ensures c.if-is_up_to.false (l.invariant.2 rise))

pub returns : goal.returns
returns g c =
    let order = g.T.Keyed.order in
    let xs = c.args.items.now in
    let low = c.loop-low.low in
    let within : low ≤ length xs = omega arith in
    let same : c.loop-low.high ≡ low = omega arith in
    let parted : Rising order xs → Parted order c.args.limit xs low = λ rise. subst (λ (high : ℕ). Halved order c.args.limit xs low high) same (c.loop-low.invariant.2 rise) in
    record { within = within; counted = λ rise. place_counts order c.args.limit xs low within (parted rise); parted = parted }
