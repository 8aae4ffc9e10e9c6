-- The table of a register: where its days stand, what holds of each, and what a reading leaves.
use Rattle.std.specs.Prelude.{◌≡◌, ℕ, zero, suc, ◌+◌, ◌-◌, ◌*◌, ◌^◌, ◌<◌, ◌≤◌, Bool, true, false, cond, List, [], ◌∷◌, get_or, replicate, Some, None, ◌==◌, count_ones, nat_le, slice_index_or, slice_set, refl}
use Rattle.std.proofs.Common.{sym, ap, subst, ◌∙◌, ⊎_elim, arith}
use Rattle.std.proofs.lemmas.Nat.{pow_pos, ones-le}
use Rattle.std.proofs.lemmas.List.{get_or-replicate, get_or_past, length-replicate}
use Rattle.std.proofs.lemmas.Bool.{and_parts, and_from, leb-true, eqb-true, eq-eqb, cond_both, cases_lt}
use Rattle.calendar.specs.Days.{is_day, leap, month_in_year, month_of, new_year, year_of}
use Rattle.calendar.specs.Hours.{hours_of, last_sunday}
use Rattle.calendar.proofs.Years.{year-begun, year_lasts_from}
use Rattle.meters.specs.declared.register.day.Day.{Day}
use Rattle.meters.specs.declared.register.held.Register.{Register}
use Rattle.meters.specs.Marks.{unread_day, marked, with_hour}
use Rattle.meters.specs.Register.{of_year}
use Rattle.meters.specs.Marking.{marks_stay, ones_more, unmarked_bit}

-- what is told only under a test passed it
pub told_only : {X : Type 0} (b : Bool) (x y : X) → Some x ≡ cond b (Some y) None → (b ≡ true) × (x ≡ y)
told_only true x y e = (refl, cc)
told_only false x y e = let z : ◌≡◌ {A = ℕ} 0 1 = cc in absurd (omega arith)

pub silent_only : {X : Type 0} (b : Bool) (y : X) → None ≡ cond b (Some y) None → b ≡ false
silent_only true y e = let z : ◌≡◌ {A = ℕ} 0 1 = cc in absurd (omega arith)
silent_only false y e = refl

-- a day whose year is told to be y is a day of y
pub of_told_year : (d y z : ℕ) → Some z ≡ cond (is_day d) (Some (year_of d)) None → z ≡ y → of_year y d ≡ true
of_told_year d y z e same =
    let p = told_only (is_day d) z (year_of d) e in
    and_from (is_day d) (year_of d == y) p.0 (eq-eqb (year_of d) y (sym p.1 ∙ same))

-- a day of a year stands among the 366 places from the year's first day on
pub in_place : (y d : ℕ) → of_year y d ≡ true → (new_year y ≤ d) × (d - new_year y < 366)
in_place y d h =
    let p = and_parts (is_day d) (year_of d == y) h in
    let q = and_parts (nat_le 1 d) (nat_le d 23376) p.0 in
    let low = leb-true 1 d q.0 in
    let high = leb-true d 23376 q.1 in
    let few : cond (leap (year_of d)) 366 365 ≤ 366 = cond_both (leap (year_of d)) 366 365 (λ x. x ≤ 366) (λ _. omega arith) (λ _. omega arith) in
    let P : ℕ → Type 0 = λ y. (new_year y ≤ d) × (d - new_year y < 366) in
    subst P (eqb-true (year_of d) y p.1) (year-begun d low high, omega (arith, year_lasts_from d low high))

between : (p q s : Bool) → (23 ≤ cond p (cond q 23 (cond s 25 24)) 24) × (cond p (cond q 23 (cond s 25 24)) 24 ≤ 25)
between true true s = (omega arith, omega arith)
between true false true = (omega arith, omega arith)
between true false false = (omega arith, omega arith)
between false q s = (omega arith, omega arith)

-- a day has 23 to 25 hours
pub hours_between : (d : ℕ) → (23 ≤ hours_of d) × (hours_of d ≤ 25)
unfolding hours_of
hours_between d = between (last_sunday d) (month_in_year (month_of d) == 3) (month_in_year (month_of d) == 10)

-- a table of unread days has one at each place, and past its end
pub unread_at : (n k : ℕ) → slice_index_or (replicate n unread_day) k unread_day ≡ unread_day
unread_at n k =
    ⊎_elim
    (λ h. get_or-replicate n k unread_day unread_day h)
    (λ h. get_or_past (replicate n unread_day) k unread_day (omega (arith, length-replicate n unread_day)))
    (cases_lt k n)

pub unread_within : (n k h : ℕ) → (get_or (replicate n unread_day) k unread_day).marks < 2 ^ h
unread_within n k h = omega (arith, ap (λ d. d.marks) (unread_at n k), pow_pos h)

pub unread_small : (n k : ℕ) → (get_or (replicate n unread_day) k unread_day).total ≤ 10000 * count_ones (get_or (replicate n unread_day) k unread_day).marks
unread_small n k = omega (arith, ap (λ d. d.total) (unread_at n k))

-- what holds at each place still does where one day is replaced by one that it holds of
set_keeps : (P : ℕ → Day → Type 0) (days : List Day) (i : ℕ) (d : Day) → ((k : ℕ) → P k (slice_index_or days k unread_day)) → P i d → (k : ℕ) → P k (slice_index_or (slice_set days i d) k unread_day)
set_keeps P [] i d all here k = all k
set_keeps P (x ∷ xs) zero d all here zero = here
set_keeps P (x ∷ xs) zero d all here (suc k) = all (suc k)
set_keeps P (x ∷ xs) (suc i) d all here zero = all zero
set_keeps P (x ∷ xs) (suc i) d all here (suc k) = set_keeps (λ k. P (suc k)) xs i d (λ k. all (suc k)) here k

module _ (m : Register) where
  -- what stands at a place
  abbrev at : ℕ → Day
  at k = slice_index_or m.days k unread_day

  abbrev hours_at : ℕ → ℕ
  hours_at k = hours_of (new_year m.year + k)

  -- a day has at most 25 hours' kWh
  pub day_most : (k : ℕ) → (at k).total ≤ 250000
  day_most k = omega (arith, m.small k, ones-le (hours_at k) (at k).marks (m.within k), (hours_between (new_year m.year + k)).1)

  module _ (place hour kwh : ℕ) where
    abbrev after : List Day
    after = slice_set m.days place (with_hour hour kwh (at place))

    pub kept_within : hour < hours_at place → (k : ℕ) → (get_or after k unread_day).marks < 2 ^ hours_at k
    kept_within h =
        set_keeps (λ k d. d.marks < 2 ^ hours_at k) m.days place (with_hour hour kwh (at place)) m.within
        (marks_stay (hours_at place) hour (at place).marks h (m.within place))

    pub kept_small : marked (at place) hour ≡ false → kwh ≤ 10000 → (k : ℕ) → (get_or after k unread_day).total ≤ 10000 * count_ones (get_or after k unread_day).marks
    kept_small unread few =
        set_keeps (λ k d. d.total ≤ 10000 * count_ones d.marks) m.days place (with_hour hour kwh (at place)) m.small
        (omega (arith, m.small place, ones_more (at place).marks hour (unmarked_bit (at place) hour unread)))
