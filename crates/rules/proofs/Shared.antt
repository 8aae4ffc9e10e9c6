-- A day is shared exactly where some day lies in both intervals.
use Rattle.std.proofs.Common.{◌≡◌, ℕ, ◌≤◌, max, true, false, ◌&&◌, eqb, leb, List, [], ◌∷◌, refl, inl, inr, ⊎_elim, arith}
use Rattle.std.specs.List.{AllByRecursion}
use Rattle.std.proofs.lemmas.Bool.{and_from, and_parts, both_ways, eq-eqb, eqb-true, le-leb, leb-true, or_cases, or_left, or_right}
use Rattle.rules.specs.declared.types.Interval.{Interval}
use Rattle.rules.specs.Books.{shared_day}
use Rattle.rules.specs.Laws.{DayShared, Shares}

module _ (p a b : ℕ) where
  pub shared_by_day : (is : List Interval) → a ≤ b → AllByRecursion (λ i. i.first ≤ i.last) is → shared_day p a b is ≡ true → DayShared p a b is
  shared_by_day [] h lasting e = absurd (both_ways false refl e)
  shared_by_day (i ∷ is) h lasting e =
      ⊎_elim
      (λ here.
      let one = and_parts (eqb i.place p) (leb i.first b && leb a i.last) here in
      let two = and_parts (leb i.first b) (leb a i.last) one.1 in
      let low = leb-true i.first b two.0 in
      let high = leb-true a i.last two.1 in
      let order : i.first ≤ i.last = lasting.0 in
      inl (record { place = eqb-true i.place p one.0; day = max a i.first; not_before = omega arith; not_after = omega arith; begun = omega arith; ended = omega arith }))
      (λ later. inr (shared_by_day is h lasting.1 later))
      (or_cases (eqb i.place p && (leb i.first b && leb a i.last)) (shared_day p a b is) e)

  shares_test : (i : Interval) → Shares p a b i → (eqb i.place p && (leb i.first b && leb a i.last)) ≡ true
  shares_test i s =
      and_from (eqb i.place p) (leb i.first b && leb a i.last) (eq-eqb i.place p s.place)
      (and_from (leb i.first b) (leb a i.last) (le-leb i.first b (omega arith)) (le-leb a i.last (omega arith)))

  pub day_is_shared : (is : List Interval) → DayShared p a b is → shared_day p a b is ≡ true
  day_is_shared [] h = absurd h
  day_is_shared (i ∷ is) h =
      let test = eqb i.place p && (leb i.first b && leb a i.last) in
      ⊎_elim
      (λ here. or_left test (shared_day p a b is) (shares_test i here))
      (λ later. or_right test (shared_day p a b is) (day_is_shared is later))
      h
