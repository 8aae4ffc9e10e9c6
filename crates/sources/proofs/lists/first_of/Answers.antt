use Rattle.std.proofs.Common.{eqb, sym, ◌∙◌, rules}
use Rattle.std.proofs.lemmas.Iterator.{YieldsList-from_slice}
use Rattle.std.proofs.lemmas.Iterator.Search.{find_from_yields_List}
use Rattle.sources.proofs.Items.{first_found}
use Rattle.sources.proofs.lists.first_of.Goals as goal
use borrow.Author.Tests.{tests}

pub returns : goal.returns
returns g c =
    let number = g.T.Keyed.order in
    c.copied.ensures
    ∙ find_from_yields_List (λ x. eqb (number x) c.args.date) _ _ c.find.result c.find.ensures.ran (YieldsList-from_slice c.args.items.now cc) (λ x b q k. search (rules, tests))
    ∙ sym (first_found number c.args.items.now c.args.date)
