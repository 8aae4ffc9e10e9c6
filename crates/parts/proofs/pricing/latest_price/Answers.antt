use Rattle.std.proofs.Common.{sym, ◌∙◌, arith, rules}
use Rattle.parts.proofs.Monthly.{no-month, told-month, silent-month}
use Rattle.parts.proofs.pricing.latest_price.Goals as goal

pub returns-in-Some : goal.returns-in-Some
returns-in-Some g c =
    sym (told-month (g.S.Current.price c.args.source.now) c.loop-month.month c.args.issued (omega arith) (omega arith) c.in-Some.price (search rules)) ∙ c.loop-month.invariant

pub loop-month-preserved : goal.loop-month-preserved
loop-month-preserved g c =
    sym (silent-month (g.S.Current.price c.args.source.now) c.loop-month.month c.args.issued (omega arith) (omega arith) (search rules)) ∙ c.loop-month.invariant

pub returns : goal.returns
returns g c =
    sym (no-month (g.S.Current.price c.args.source.now) c.loop-month.month c.args.issued (omega arith)) ∙ c.loop-month.invariant
