use Rattle.std.proofs.Common.{◌≡◌, ◌+◌, true, false, refl, arith, rules, tests}
use Rattle.std.proofs.lemmas.Iterator.{YieldsList-from_range, cases_from_any}
use Rattle.parts.specs.Cutting.{silent}
use Rattle.parts.proofs.Growing.{any_silent}
use Rattle.parts.proofs.cutting.is_silent_within.Goals as goal

pub returns : goal.returns
returns g c =
    let quota = g.S.Current.quota c.args.source.now in
    any_silent quota c.args.first c.args.count c.any.result
    (cases_from_any _ _ _ (λ d. silent (quota d) ≡ true) (λ d. silent (quota d) ≡ false) c.any.ensures.ran
    (YieldsList-from_range c.args.first (c.args.first + c.args.count) c.args.count refl (omega arith))
    (λ x q k. search (rules, tests)) (λ x q k. search (rules, tests)))
