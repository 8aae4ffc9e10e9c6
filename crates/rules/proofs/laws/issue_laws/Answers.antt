use Rattle.rules.proofs.Issues.{table_rises, supply-parted, supply-adds_up}
use Rattle.rules.proofs.laws.issue_laws.Goals as goal

pub returns : goal.returns
returns c = record { rising = table_rises; parted = supply-parted; adds_up = supply-adds_up }
