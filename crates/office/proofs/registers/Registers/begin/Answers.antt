use Rattle.std.proofs.Common.{◌<◌, length, arith, rules}
use Rattle.office.proofs.ById.{opened_one}
use Rattle.office.proofs.registers.Registers.begin.Goals as goal

pub returns-in-Ok : goal.returns-in-Ok
returns-in-Ok g c =
    let h : c.args.id < length c.args.self.now.list = omega arith in
    let one = opened_one c.args.self.now c.args.id c.args.year c.in-Ok.register h c.in-Ok.ensures in
    search rules
