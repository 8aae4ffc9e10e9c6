use Rattle.std.proofs.Common.{◌&&◌, sym, ◌∙◌, rules}
use Rattle.std.proofs.lemmas.Iterator.{YieldsList-from_slice}
use Rattle.std.proofs.lemmas.Iterator.Search.{any_from_yields_List}
use borrow.Author.Tests.{tests}
use Rattle.rules.specs.declared.types.Interval.{Interval}
use Rattle.rules.specs.Books.{interval_of, is_settled}
use Rattle.journal.proofs.Passes.{any_is}
use Rattle.journal.proofs.survey.is_year_settled.Goals as goal

pub returns : goal.returns
returns c =
    let test = λ (i : Interval). interval_of c.args.place c.args.year i && is_settled i.status in
    any_from_yields_List test _ _ c.any.result c.any.ensures.ran (YieldsList-from_slice c.args.intervals.now cc) (λ x b q k. search (rules, tests))
    ∙ sym (any_is test c.args.intervals.now)
