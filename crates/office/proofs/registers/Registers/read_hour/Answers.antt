use Rattle.std.proofs.Common.{set, Some, ap, ◌∙◌}
use Rattle.office.specs.Registers.{by_id}
use Rattle.office.proofs.ById.{read_one}
use Rattle.office.proofs.registers.Registers.read_hour.Goals as goal

pub returns : goal.returns
returns g c =
    let rs = c.args.self.now in
    let read = c.read_hour.new.self in
    ap (λ n. (c.from-answer.result, by_id {ids = g.row.IDS} (record { list = set rs.list n (Some read) }))) c.from.ensures
    ∙ read_one rs c.args.id c.args.day c.args.hour c.args.kwh c.in-Some.register read c.from-answer.result c.read_hour.result c.in-Some.ensures c.read_hour.ensures c.from-answer.ensures
