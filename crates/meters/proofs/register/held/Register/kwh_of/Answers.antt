use Rattle.std.proofs.Common.{◌≡◌, Bool, true, false, cond, Some, None, refl, ◌∙◌}
use Rattle.std.specs.Bool.{then_some}
use Rattle.meters.specs.Readings.{kwh_counted}
use Rattle.meters.proofs.register.held.Register.kwh_of.Goals as goal

then_some_cond : {X : Type 0} (b : Bool) (x : X) → then_some b x ≡ cond b (Some x) None
then_some_cond true x = refl
then_some_cond false x = refl

pub returns-clause-told : goal.returns-clause-told
returns-clause-told c =
    let at = c.in_ok-place in
    c.then_some.ensures
    ∙ then_some_cond c.has_all.result _
    ∙ kwh_counted c.args.self.now c.args.day at.place at.hours c.has_all.result at.ensures.told c.has_all.ensures
