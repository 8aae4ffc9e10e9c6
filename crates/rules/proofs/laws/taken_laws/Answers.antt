use Rattle.rules.proofs.Issues.{supply-tells}
use Rattle.rules.proofs.Shared.{day_is_shared, shared_by_day}
use Rattle.rules.proofs.Taking.{issue-taken}
use Rattle.rules.proofs.laws.taken_laws.Goals as goal

pub returns : goal.returns
returns c = record { told = supply-tells; taken = issue-taken; shared = shared_by_day; shares = day_is_shared }
