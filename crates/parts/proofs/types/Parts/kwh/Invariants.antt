use Rattle.std.proofs.Common.{◌≡◌, ◌*◌, ◌≤◌, take, sum_by}
use Rattle.parts.proofs.types.Parts.kwh.Given as goal

abbrev pub invariant-loop-part : goal.invariant-loop-part
invariant-loop-part l = (l.sum ≡ sum_by (λ p. p.kwh) (take l.part-index l.part-items)) × (l.sum ≤ l.part-index * 4294967295)
