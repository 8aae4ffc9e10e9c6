-- A call's conditions in the order of their numbers: the first that holds is the refusal, and then nothing changes.
use Rattle.std.specs.Prelude.{◌≡◌, ◌<◌, ◌≤◌, Bool, true, false, cond, ◌⊎◌, List, [], ◌∷◌, Ok, Err, Result}
use Rattle.std.specs.List.{AllByRecursion}
use Rattle.amounts.specs.declared.refusal.Refusal.{Refusal}
use Rattle.amounts.specs.Refusals.{number}

-- conditions, each with the refusal that it gives
abbrev pub Table : Type 0
Table = List (Bool × Refusal)

-- the first condition that holds refuses; where none does, the value
abbrev pub first_refused : {X : Type 0} → Table → X → Result X Refusal
first_refused [] x = Ok x
first_refused (c ∷ cs) x = cond c.0 (Err c.1) (first_refused cs x)

-- a call's answer and the state that it leaves
abbrev pub Outcome : Type 0 → Type 0 → Type 0
Outcome A J = Result A Refusal × J

-- refused, the state stays as it was; taken, the answer and the new state
abbrev pub decide : {A J : Type 0} → Table → J → A → J → Outcome A J
decide [] j a taken = (Ok a, taken)
decide (c ∷ cs) j a taken = cond c.0 (Err c.1, j) (decide cs j a taken)

-- some condition that holds gives the refusal
abbrev pub Given : Refusal → Table → Type 0
Given e [] = ⊥
Given e (c ∷ cs) = ((c.0 ≡ true) × (c.1 ≡ e)) ⊎ Given e cs

-- no condition holds; or the refusal's does, and none with a smaller number
abbrev pub Smallest : {X : Type 0} → Table → Result X Refusal → Type 0
Smallest t (Ok x) = AllByRecursion (λ c. c.0 ≡ false) t
Smallest t (Err e) = Given e t × AllByRecursion (λ c. c.0 ≡ true → number e ≤ number c.1) t

-- the numbers of a table rise
abbrev pub Rising : Table → Type 0
Rising [] = Unit {0}
Rising (c ∷ cs) = AllByRecursion (λ k. number c.1 < number k.1) cs × Rising cs

-- with numbers that rise the first condition that holds is the one with the smallest number
abbrev pub SmallestFirst : {X : Type 0} → X → Type 0
SmallestFirst x = (t : Table) → Rising t → Smallest t (first_refused t x)

-- the state after an answer: as it was where refused, else the one taken
abbrev pub state_after : {A J : Type 0} → Result A Refusal → J → J → J
state_after (Ok a) j taken = taken
state_after (Err e) j taken = j

-- an outcome is the first refusal with the state as it was, or the answer with the state after
abbrev pub DecideFollows : {A J : Type 0} → J → A → J → Type 0
DecideFollows j a taken = (t : Table) → decide t j a taken ≡ (first_refused t a, state_after (first_refused t a) j taken)
