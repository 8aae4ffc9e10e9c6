use Rattle.amounts.proofs.Answered.{decide-first}
use Rattle.amounts.proofs.laws.outcomes_follow_tables.Goals as goal

pub returns : goal.returns
returns g c t = decide-first t c.args.before c.args.answer c.args.after
