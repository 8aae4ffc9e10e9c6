use Rattle.std.proofs.Common.{◌≡◌, ℕ, suc, ◌-◌, false, get_or, sym, ap, ◌∙◌, arith}
use Rattle.parts.specs.Cutting.{alike, blank}
use Rattle.parts.proofs.Extending.{stored_on, stored_new, stored_full}
use Rattle.parts.proofs.types.Parts.extended.Goals as goal
use Rattle.parts.proofs.types.Parts.extended.Goals.{else-count-gt0-via-then-count-gt0+else-continues, else-count-gt0-via-else-count-gt0}

pub returns-then-continues : goal.returns-then-continues
returns-then-continues c = λ ps is few.
    let on = stored_on c.args.day c.args.self ps is (c.from-count.result - 1) few (omega arith) (sym c.if-continues.ensures) in
    cc

pub returns-then-count-eq4 : goal.returns-then-count-eq4
returns-then-count-eq4 c = λ ps is few.
    elim c.else-count-gt0.branch [
      | else-count-gt0-via-then-count-gt0+else-continues w ↦
          let at : c.from-count.result - 1 ≡ 3 = omega arith in
          stored_full c.args.day c.args.self ps is (omega arith) (ap (λ k. alike (get_or c.args.self.list k blank) c.args.day) (sym at) ∙ sym w.if-continues.ensures)
      | else-count-gt0-via-else-count-gt0 w ↦ absurd (omega (arith, w.if-count-gt0.false))
    ]

pub returns : goal.returns
returns c = λ ps is few.
    let n = c.args.self.count in
    let differs : (k : ℕ) → n ≡ suc k → alike (get_or c.args.self.list k blank) c.args.day ≡ false =
    elim c.else-count-gt0.branch [
      | else-count-gt0-via-then-count-gt0+else-continues w ↦ λ k e.
          let at : c.from-count.result - 1 ≡ k = omega arith in
          ap (λ i. alike (get_or c.args.self.list i blank) c.args.day) (sym at) ∙ sym w.if-continues.ensures
      | else-count-gt0-via-else-count-gt0 w ↦ λ k e. absurd (omega (arith, w.if-count-gt0.false))
    ] in
    let new = stored_new c.args.day c.args.self ps is (omega arith) differs in
    cc
