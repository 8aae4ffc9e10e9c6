use Rattle.std.proofs.Common.{leb, rules}
use Rattle.arrayvec.proofs.ArrayVecLemmas.{filter-from_retain}
use Rattle.sources.proofs.Items.{once_kept}
use Rattle.sources.proofs.told.Told.keep_from.Goals as goal

pub invariant_of-self-clause-once : goal.invariant_of-self-clause-once
invariant_of-self-clause-once g c =
    let number = g.T.Keyed.order in
    let kept = filter-from_retain _ (λ x. leb c.args.least (number x)) _ (λ x b f' y called. search rules) _ _ c.retain.ensures.filtered in
    rw kept (once_kept number _ c.args.least c.args.self.now.once)

pub returns : goal.returns
returns g c =
    filter-from_retain _ (λ x. leb c.args.least (g.T.Keyed.order x)) _ (λ x b f' y called. search rules) _ _ c.retain.ensures.filtered
