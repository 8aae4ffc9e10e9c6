use Rattle.office.proofs.ById.{none_kept}
use Rattle.office.proofs.registers.Registers.none.Goals as goal

pub returns : goal.returns
returns g c = none_kept g.row.IDS
