-- A call by its table of conditions, as other proofs use it.
use Rattle.std.proofs.Common.{◌≡◌, ◌<◌, ◌≤◌, Bool, true, false, [], ◌∷◌, Ok, Err, Result, sym, refl, subst, inl, inr, ⊎_elim, arith}
use Rattle.std.specs.List.{AllByRecursion}
use Rattle.std.proofs.ByRecursion.{All-weaker}
use Rattle.std.proofs.lemmas.Bool.{both_ways, cond_both, cases_Bool, cond-true, cond-false}
use Rattle.amounts.specs.declared.refusal.Refusal.{Refusal}
use Rattle.amounts.specs.Refusals.{number}
use Rattle.amounts.specs.Tables.{Table, Outcome, first_refused, decide, Smallest, Rising, state_after}

-- one condition on: it holds and refuses, or it does not and the rest decides
pub refused_here : {A J : Type 0} (c : Bool × Refusal) (cs : Table) (j : J) (a : A) (taken : J) → c.0 ≡ true → decide (c ∷ cs) j a taken ≡ (Err c.1, j)
refused_here c cs j a taken e = cond-true c.0 (Err c.1, j) (decide cs j a taken) e

pub passed_here : {A J : Type 0} (c : Bool × Refusal) (cs : Table) (j : J) (a : A) (taken : J) → c.0 ≡ false → decide (c ∷ cs) j a taken ≡ decide cs j a taken
passed_here c cs j a taken e = cond-false c.0 (Err c.1, j) (decide cs j a taken) e

pub first_here : {X : Type 0} (c : Bool × Refusal) (cs : Table) (x : X) → c.0 ≡ true → first_refused (c ∷ cs) x ≡ Err c.1
first_here c cs x e = cond-true c.0 (Err c.1) (first_refused cs x) e

pub first-later : {X : Type 0} (c : Bool × Refusal) (cs : Table) (x : X) → c.0 ≡ false → first_refused (c ∷ cs) x ≡ first_refused cs x
first-later c cs x e = cond-false c.0 (Err c.1) (first_refused cs x) e

-- a condition that does not hold changes nothing
passed : {X : Type 0} (c : Bool × Refusal) (cs : Table) (r : Result X Refusal) → c.0 ≡ false → Smallest cs r → Smallest (c ∷ cs) r
passed c cs (Ok x) e s = (e, s)
passed c cs (Err y) e s = (inr s.0, (λ t. absurd (both_ways c.0 e t), s.1))

-- of a table whose numbers rise the first refusal has the smallest number
pub smallest : {X : Type 0} (t : Table) (x : X) → Rising t → Smallest t (first_refused t x)
smallest [] x a = tt
smallest (c ∷ cs) x a =
    cond_both
    c.0
    (Err c.1)
    (first_refused cs x)
    (Smallest (c ∷ cs))
    (λ e. (inl (e, refl), (λ _. omega arith, All-weaker (λ k. number c.1 < number k.1) (λ k. k.0 ≡ true → number c.1 ≤ number k.1) (λ k h _. omega arith) cs a.0)))
    (λ e. passed c cs (first_refused cs x) e (smallest cs x a.1))

-- what is decided is the first refusal, and the state after it
pub decide-first : {A J : Type 0} (t : Table) (j : J) (a : A) (taken : J) → decide t j a taken ≡ (first_refused t a, state_after (first_refused t a) j taken)
decide-first [] j a taken = refl
decide-first (c ∷ cs) j a taken =
    ⊎_elim (λ e. rw e) (λ e. rw e (decide-first cs j a taken)) (cases_Bool c.0)

module _ {A J : Type 0} (P : Result A Refusal → J → Type 0) (j : J) (a : A) (taken : J) (no : (r : Refusal) → P (Err r) j) where
  either : (t : Table) → (AllByRecursion (λ c. c.0 ≡ false) t → P (Ok a) taken) → P (decide t j a taken).0 (decide t j a taken).1
  either [] k = k tt
  either (c ∷ cs) k =
      ⊎_elim (λ e. rw e (no c.1)) (λ e. rw e (either cs (λ h. k (e, h)))) (cases_Bool c.0)

  -- refused with the state as it was, or taken with every condition false
  pub answered : (t : Table) → (AllByRecursion (λ c. c.0 ≡ false) t → P (Ok a) taken) → (r : Result A Refusal) (j' : J) → (r, j') ≡ decide t j a taken → P r j'
  answered t k r j' e = subst (λ (o : Outcome A J). P o.0 o.1) (sym e) (either t k)
