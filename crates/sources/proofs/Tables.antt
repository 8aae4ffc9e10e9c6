-- Calls by their tables: what a refused one leaves open, and one that nothing refuses.
use Rattle.std.proofs.Common.{◌≡◌, ℕ, false, [], ◌∷◌, Ok, Err, Result, refl, ◌∙◌, arith}
use Rattle.std.specs.List.{AllByRecursion}
use Rattle.amounts.specs.declared.refusal.Refusal.{Refusal}
use Rattle.amounts.specs.Tables.{Table, decide}
use Rattle.amounts.proofs.Answered.{answered, passed_here}

-- a refused call was not taken
refused : {X : Type 0} (e : Refusal) → ◌≡◌ {A = Result (Unit {0}) Refusal} (Err e) (Ok tt) → X
refused e taken = let z : ◌≡◌ {A = ℕ} 0 1 = cc in absurd (omega arith)

-- what holds of the state after a call that is taken
pub if_taken : {J : Type 0} (P : J → Type 0) (t : Table) (j after : J) → (AllByRecursion (λ c. c.0 ≡ false) t → P after) → (decide t j (tt {0}) after).0 ≡ Ok (tt {0}) → P (decide t j (tt {0}) after).1
if_taken P t j after shown taken =
    answered (λ r g. r ≡ Ok (tt {0}) → P g) j (tt {0}) after refused t (λ none _. shown none) _ _ refl taken

-- what holds of the state before, and after a call that is taken, holds after every call
pub either_way : {J : Type 0} (P : J → Type 0) (t : Table) (j after : J) → P j → (AllByRecursion (λ c. c.0 ≡ false) t → P after) → P (decide t j (tt {0}) after).1
either_way P t j after before shown = answered (λ _ g. P g) j (tt {0}) after (λ _. before) t shown _ _ refl

-- where no condition holds the call is taken
pub taken_where : {J : Type 0} (t : Table) (j after : J) → AllByRecursion (λ c. c.0 ≡ false) t → decide t j (tt {0}) after ≡ (Ok (tt {0}), after)
taken_where [] j after none = refl
taken_where (c ∷ cs) j after none = passed_here c cs j (tt {0}) after none.0 ∙ taken_where cs j after none.1
