use Rattle.std.proofs.Common.{rules}
use Rattle.lookup.proofs.Parting.{hit_found}
use Rattle.lookup.proofs.search.find_key.Goals as goal

pub returns : goal.returns
returns g c = λ rise. hit_found g.T.Keyed.order c.args.key c.args.items.now _ _ _ rise (c.last_up_to.ensures.last rise) (λ x b gives. search rules) c.filter.ensures
