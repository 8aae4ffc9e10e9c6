use Rattle.std.proofs.Common.{is_ok, vec_items}
use Rattle.notice.proofs.Growing.{rises_kept}
use Rattle.notice.proofs.table.Table.push.Goals as goal

pub invariant_of-self : goal.invariant_of-self
invariant_of-self g c =
    let t = c.args.self.now in
    record { rising = rises_kept g.T.Keyed.order (vec_items t.records) c.args.item t.rising (vec_items c.push.new.self) (is_ok c.push.result) c.push.ensures.items c.requires }
