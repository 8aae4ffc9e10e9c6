use Rattle.std.proofs.lemmas.List.Filters.{FiltersInPlace}
use Rattle.books.specs.Records.{not_of}
use Rattle.books.proofs.book.years.gather.Given as goal

abbrev pub invariant-loop-i : goal.invariant-loop-i
invariant-loop-i g l = FiltersInPlace (not_of g.R.Dated.dates l.year) l.initial.records l.records l.end l.i
