use Rattle.amounts.proofs.Roundings.{amounts_laws}
use Rattle.amounts.proofs.laws.amounts_laws.Goals as goal

pub returns : goal.returns
returns c = amounts_laws
