use Rattle.std.proofs.Common.{◌<◌, rules}
use Rattle.sources.specs.Figures.{last_day}
use Rattle.sources.proofs.Quotas.{new_day}
use Rattle.sources.proofs.held.Board.tell_quota.Goals as goal

pub push-requires : goal.push-requires
push-requires c =
    let b = c.args.self.now in
    let later : last_day b.quotas.kept.items < c.args.day = search rules in
    (search rules, (search rules, new_day _ c.args.day b.rising later))
