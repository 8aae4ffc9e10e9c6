use Rattle.std.proofs.Common.{None, Option, arith}
use Rattle.std.proofs.lemmas.List.{length-replicate}
use Rattle.books.specs.declared.enrolment.Enrolment.{Enrolment}
use Rattle.books.proofs.Rolls.{all_small}
use Rattle.books.proofs.roll.Roll.new.Goals as goal

pub invariant_of-result : goal.invariant_of-result
invariant_of-result c = let nobody : Option Enrolment = None in record { size = length-replicate 250 nobody; part = all_small 250 _ (omega arith) }
