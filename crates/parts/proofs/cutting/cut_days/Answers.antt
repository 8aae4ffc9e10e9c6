use Rattle.std.proofs.Common.{◌-◌, ◌∙◌, arith}
use Rattle.books.specs.Enrolments.{percent_on}
use Rattle.parts.specs.Cutting.{cut}
use Rattle.parts.proofs.Growing.{cut_step, cut_stop}
use Rattle.parts.proofs.cutting.cut_days.Goals as goal

pub returns-in_err-parts : goal.returns-in_err-parts
returns-in_err-parts g c =
    let q = g.S.Current.quota c.args.source.now in
    let p = percent_on c.args.enrolment in
    let day = c.loop-day.day in
    let before = cut q p c.args.first (day - c.args.first) in
    c.from_residual.ensures
    ∙ cut_stop q p c.args.first day c.day_alone.result (omega arith) c.day_alone.ensures c.args.count (omega arith) (c.in_err-parts.ensures before c.loop-day.invariant.0 c.loop-day.invariant.1)

pub loop-day-preserved : goal.loop-day-preserved
loop-day-preserved g c =
    let q = g.S.Current.quota c.args.source.now in
    let p = percent_on c.args.enrolment in
    let day = c.loop-day.day in
    let before = cut q p c.args.first (day - c.args.first) in
    cut_step q p c.args.first day c.day_alone.result (omega arith) c.day_alone.ensures c.in_ok-parts.parts (c.in_ok-parts.ensures before c.loop-day.invariant.0 c.loop-day.invariant.1)
