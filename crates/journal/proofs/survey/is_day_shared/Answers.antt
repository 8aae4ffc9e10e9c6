use Rattle.std.proofs.Common.{◌&&◌, eqb, leb, sym, ◌∙◌, rules}
use Rattle.std.proofs.lemmas.Iterator.{YieldsList-from_slice}
use Rattle.std.proofs.lemmas.Iterator.Search.{any_from_yields_List}
use borrow.Author.Tests.{tests}
use Rattle.rules.specs.declared.types.Interval.{Interval}
use Rattle.journal.proofs.Passes.{any_is}
use Rattle.journal.proofs.survey.is_day_shared.Goals as goal

pub returns : goal.returns
returns c =
    let s = c.args.supply in
    let test = λ (i : Interval). eqb i.place s.place && (leb i.first s.last && leb s.first i.last) in
    any_from_yields_List test _ _ c.any.result c.any.ensures.ran (YieldsList-from_slice c.args.intervals.now cc) (λ x b q k. search (rules, tests))
    ∙ sym (any_is test c.args.intervals.now)
