use Rattle.std.proofs.Common.{◌<◌, not, length, sym, ap, ◌∙◌, arith}
use Rattle.std.proofs.lemmas.List.Filters.{FiltersInPlace-more_set, FiltersInPlace-more_no}
use Rattle.std.proofs.lemmas.Bool.{eq-eqb, ne_eqb}
use Rattle.books.proofs.book.years.gather.Goals as goal
use Rattle.books.proofs.book.years.gather.Goals.{then-year, else-year}

pub loop-i-preserved : goal.loop-i-preserved
loop-i-preserved g c =
    let in' : c.loop-i.i < length c.loop-i.records = omega arith in
    let read = c.index-records-i.is in
    elim c.if-year.branch [
      | then-year w ↦ rw (w.records-is, w.end-is) (FiltersInPlace-more_set c.loop-i.invariant in' (ap not (ne_eqb _ _ (λ e. w.if-year.true (c.year.ensures ∙ e)))) read)
      | else-year w ↦ rw (w.records-is, w.end-is) (FiltersInPlace-more_no c.loop-i.invariant in' (ap not (eq-eqb _ _ (sym c.year.ensures ∙ w.if-year.false))) read)
    ]
