use Rattle.amounts.proofs.Answered.{smallest}
use Rattle.amounts.proofs.laws.tables_give_the_smallest.Goals as goal

pub returns : goal.returns
returns g c t r = smallest t c.args.answer r
