use Rattle.std.proofs.Common.{◌≡◌, ◌+◌, ◌-◌, sym, ap, ◌∙◌, arith}
use Rattle.meters.specs.Register.{readings, is_read, on_day, register_kwh}
use Rattle.meters.specs.Readings.{one_more, told_all, silent_day, few_read, sum_most}
use Rattle.meters.specs.Registers.{silent_only}
use Rattle.meters.proofs.register.asking.RegisterMeter.kwh.Goals as goal

pub returns-in_err-sum : goal.returns-in_err-sum
returns-in_err-sum c =
    let r = readings c.args.self.now in
    let d = c.loop-day.day in
    let no = silent_only (is_read r d) (on_day r d).total c.in_err-sum.ensures.told in
    c.from_residual.ensures ∙ sym (silent_day r c.args.first c.args.last d (omega arith) (omega arith) no)

pub overflow_add-sum : goal.overflow_add-sum
overflow_add-sum c =
    let m = c.args.self.now in
    let a = c.args.first in
    let n = c.loop-day.day - a in
    let few = few_read (readings m) a n c.loop-day.invariant.0 in
    let most = sum_most m a n in
    let one = c.in_ok-sum.ensures.small in
    omega (arith, c.loop-day.invariant.1)

pub loop-day-preserved : goal.loop-day-preserved
loop-day-preserved c =
    one_more (readings c.args.self.now) c.args.first c.loop-day.day c.loop-day.sum c.in_ok-sum.field-0 (omega arith) c.loop-day.invariant c.in_ok-sum.ensures.told

pub returns-in_ok-sum : goal.returns-in_ok-sum
returns-in_ok-sum c =
    let r = readings c.args.self.now in
    let a = c.args.first in
    let d = c.loop-day.day in
    let end : d ≡ c.args.last = omega arith in
    let so = one_more r a d c.loop-day.sum c.in_ok-sum.field-0 (omega arith) c.loop-day.invariant c.in_ok-sum.ensures.told in
    told_all r a d (c.loop-day.sum + c.in_ok-sum.field-0) (omega arith) so ∙ ap (register_kwh r a) end
