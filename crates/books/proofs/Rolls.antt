-- What an enrolment leaves in the roll.
use Rattle.std.proofs.Common.{◌≡◌, ℕ, zero, suc, ◌-◌, ◌≤◌, true, false, cond, ◌&&◌, leb, ◌≢◌, List, [], ◌∷◌, length, get_or, set, replicate, Some, None, Option, Result, sym, refl, ap, ◌∙◌, ⊎_elim, arith}
use Rattle.std.proofs.lemmas.List.{get_or-set_same, get_or-set_other, length-set}
use Rattle.std.proofs.lemmas.Bool.{and_parts, leb-true, cond-true, cond-false, cond_both, cases_Bool, not-false}
use Rattle.amounts.specs.declared.refusal.Refusal.{Refusal}
use Rattle.amounts.proofs.Answered.{answered}
use Rattle.books.specs.declared.enrolment.Enrolment.{Enrolment}
use Rattle.books.specs.Enrolments.{percent_of, percent_on}
use Rattle.books.specs.Roll.{is_place, enrolled, percent_at, enrol_refusals, enrol_outcome, Told, Others}

-- where every place has the same of at most 100, all are so
pub all_small : (n : ℕ) (p : Option Enrolment) → percent_of p ≤ 100 → (k : ℕ) → percent_of (get_or (replicate n p) k None) ≤ 100
all_small zero p h k = omega arith
all_small (suc n) p h zero = h
all_small (suc n) p h (suc k) = all_small n p h k

-- with one of at most 100 more, they all stay so
pub set_small : (ps : List (Option Enrolment)) (i : ℕ) (e : Enrolment) → e.percent ≤ 100 → ((k : ℕ) → percent_of (get_or ps k None) ≤ 100) → (k : ℕ) → percent_of (get_or (set ps i (Some e)) k None) ≤ 100
set_small [] i e h all k = all k
set_small (p ∷ ps) zero e h all zero = h
set_small (p ∷ ps) zero e h all (suc k) = all (suc k)
set_small (p ∷ ps) (suc i) e h all zero = all 0
set_small (p ∷ ps) (suc i) e h all (suc k) = set_small ps i e h (λ j. all (suc j)) k

-- the percent on a day is no more than the percent
pub percent_on_small : (e : Enrolment) (day : ℕ) → percent_on e day ≤ e.percent
percent_on_small e day = cond_both (leb e.first day && leb day e.last) e.percent 0 (λ p. p ≤ e.percent) (λ _. omega arith) (λ _. omega arith)

-- a place's index lies in the table
place_inside : (place : ℕ) → is_place place ≡ true → (1 ≤ place) × (place ≤ 250)
place_inside place is =
    let both = and_parts (leb 1 place) (leb place 250) is in
    (leb-true 1 place both.0, leb-true place 250 both.1)

-- the enrolment is found where it was put
pub enrolled_same : (ps : List (Option Enrolment)) (place : ℕ) (e : Enrolment) → length ps ≡ 250 → is_place place ≡ true → enrolled (set ps (place - 1) (Some e)) place ≡ Some e
enrolled_same ps place e long is =
    let near = place_inside place is in
    cond-true (is_place place) _ None is ∙ get_or-set_same ps (place - 1) (Some e) None (omega (arith, near.0, near.1))

-- and nowhere else
pub enrolled_other : (ps : List (Option Enrolment)) (place other : ℕ) (e : Enrolment) → is_place place ≡ true → (other ≡ place → ⊥) → enrolled (set ps (place - 1) (Some e)) other ≡ enrolled ps other
enrolled_other ps place other e is ne =
    let near = place_inside place is in
    ⊎_elim
    (λ (is-other : is_place other ≡ true).
    let near-other = place_inside other is-other in
    let apart : other - 1 ≢ place - 1 = λ same. ne (omega (arith, near.0, near-other.0)) in
    ap (λ found. cond (is_place other) found None) (get_or-set_other ps (place - 1) (other - 1) (Some e) None apart))
    (λ (no_place : is_place other ≡ false). cond-false (is_place other) _ None no_place ∙ sym (cond-false (is_place other) _ None no_place))
    (cases_Bool (is_place other))

-- the place's percent on each day is as told
pub told_same : (ps : List (Option Enrolment)) (place : ℕ) (e : Enrolment) (day : ℕ) → length ps ≡ 250 → is_place place ≡ true → percent_at (set ps (place - 1) (Some e)) place day ≡ percent_on e day
told_same ps place e day long is = ap (λ found. elim found [ Some x ↦ percent_on x day | None ↦ 0 ]) (enrolled_same ps place e long is)

-- taken, the percent is as told; refused, the roll is as it was
pub outcome_told : (place : ℕ) (e : Enrolment) (ps : List (Option Enrolment)) → length ps ≡ 250 → (r : Result (Unit {0}) Refusal) (after : List (Option Enrolment)) → (r, after) ≡ enrol_outcome place e ps → Told place e ps after r
outcome_told place e ps long =
    answered (λ r after. Told place e ps after r) ps tt (set ps (place - 1) (Some e)) (λ _. refl) (enrol_refusals place e)
    (λ off day. ap (λ found. elim found [ Some x ↦ percent_on x day | None ↦ 0 ]) (enrolled_same ps place e long (not-false (is_place place) off.0)))

-- the other places are as they were
pub outcome_others : (place : ℕ) (e : Enrolment) (ps : List (Option Enrolment)) (r : Result (Unit {0}) Refusal) (after : List (Option Enrolment)) → (r, after) ≡ enrol_outcome place e ps → Others place ps after
outcome_others place e ps =
    answered (λ _ after. Others place ps after) ps tt (set ps (place - 1) (Some e)) (λ _ _ _. refl) (enrol_refusals place e)
    (λ off other ne. enrolled_other ps place other e (not-false (is_place place) off.0) ne)

pub ruleset enrolling = (set_small, told_same, enrolled_other, length-set)
