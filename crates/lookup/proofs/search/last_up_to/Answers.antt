use Rattle.lookup.proofs.Parting.{last_is, greatest_is}
use Rattle.lookup.proofs.search.last_up_to.Goals as goal

pub returns : goal.returns
returns g c =
    let key = g.T.Keyed.order in
    let xs = c.args.items.now in
    let n = c.count_up_to.result in
    let told = c.count_up_to.ensures in
    record {
      last = λ rise. last_is key c.args.limit xs n c.last_of.result told.within (told.parted rise) c.last_of.ensures;
      greatest = λ rise. greatest_is key c.args.limit xs n c.last_of.result rise told.within (told.parted rise) c.last_of.ensures;
    }
