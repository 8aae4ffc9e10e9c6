use Rattle.parts.proofs.Adding.{cut-adds_up, parts_add_up}
use Rattle.parts.proofs.metering.metering_laws.Goals as goal

pub returns : goal.returns
returns c = record { parts = parts_add_up; cut = cut-adds_up }
