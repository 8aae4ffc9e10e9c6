-- Items by their numbers: what is found, what is kept from a number on, and what holds of each two.
use Rattle.std.proofs.Common.{◌≡◌, ℕ, zero, suc, ◌<◌, ◌≤◌, true, false, cond, eqb, leb, List, [], ◌∷◌, ◌++◌, length, get_or, is_some, Some, None, Option, sym, refl, ap, ◌∙◌, ⊎_elim, arith}
use Rattle.std.specs.Option.{option_map}
use Rattle.std.specs.List.{AllByRecursion, AllPairs, find}
use Rattle.std.proofs.ByRecursion.{All-get_or, All-from_get_or, All-weaker, kept_by_passes}
use Rattle.std.proofs.lemmas.List.Kept.{AllPairs-filter}
use Rattle.std.proofs.lemmas.List.Quantifiers.{all_pairs_push}
use Rattle.std.proofs.lemmas.List.Sums.{length-filter, count_by-le-length}
use Rattle.std.proofs.lemmas.Bool.{false≢true, cases_Bool, both_ways, eq-eqb, eqb-false, ne_eqb, leb-true, leb-false, cond-true, cond-false}
use Rattle.lookup.specs.Order.{first_with}
use Rattle.sources.specs.Lists.{from_on, Once}

module _ {T : Type 0} (R : T → T → Type 0) where
  -- the first item and each other, and each two of the others
  pub all_pairs_head : (x : T) (xs : List T) → AllPairs R (x ∷ xs) → AllByRecursion (R x) xs
  all_pairs_head x xs each = All-from_get_or (R x) xs x (λ i h. each 0 (suc i) x (omega arith) (omega arith))

  pub all_pairs_tail : (x : T) (xs : List T) → AllPairs R (x ∷ xs) → AllPairs R xs
  all_pairs_tail x xs each j k d jk h = each (suc j) (suc k) d (omega (arith, jk)) (omega (arith, h))

  -- one item more, that all others go with
  pub all_pairs_more : (xs : List T) (y : T) → AllPairs R xs → AllByRecursion (λ x. R x y) xs → AllPairs R (xs ++ y ∷ [])
  all_pairs_more xs y each ends = all_pairs_push R xs y each (λ k d h. All-get_or (λ x. R x y) xs k d h ends)

-- what is there is there under any reading
some_mapped : {T V : Type 0} (value : T → V) (o : Option T) → is_some (option_map value o) ≡ is_some o
some_mapped value None = refl
some_mapped value (Some x) = refl

module _ {T : Type 0} (number : T → ℕ) where
  -- the first item is the one, or the others say it
  here : (x : T) (xs : List T) (n : ℕ) → eqb (number x) n ≡ true → first_with number n (x ∷ xs) ≡ Some x
  here x xs n its = cond-true (eqb (number x) n) (Some x) (first_with number n xs) its

  passed : (x : T) (xs : List T) (n : ℕ) → eqb (number x) n ≡ false → first_with number n (x ∷ xs) ≡ first_with number n xs
  passed x xs n other = cond-false (eqb (number x) n) (Some x) (first_with number n xs) other

  -- as the library's search says it
  pub first_found : (xs : List T) (n : ℕ) → first_with number n xs ≡ find (λ x. eqb (number x) n) xs
  first_found [] n = refl
  first_found (x ∷ xs) n = ap (cond (eqb (number x) n) (Some x)) (first_found xs n)

  -- where no two items have one number, each is the one with its number
  pub first-at : (xs : List T) → Once number xs → (k : ℕ) (d : T) → k < length xs → first_with number (number (get_or xs k d)) xs ≡ Some (get_or xs k d)
  first-at [] once k d h = absurd (omega arith)
  first-at (x ∷ xs) once zero d h = here x xs (number x) (eq-eqb _ _ refl)
  first-at (x ∷ xs) once (suc k) d h =
      passed x xs _ (ne_eqb _ _ (once 0 (suc k) d (omega arith) h))
      ∙ first-at xs (all_pairs_tail (λ x y. number x ≡ number y → ⊥) x xs once) k d (omega arith)

  -- where no item has the number, there is none
  pub first_none : (xs : List T) (n : ℕ) → AllByRecursion (λ x. number x ≡ n → ⊥) xs → first_with number n xs ≡ None
  first_none [] n none_of = refl
  first_none (x ∷ xs) n none_of = passed x xs n (ne_eqb _ _ none_of.0) ∙ first_none xs n none_of.1

  -- and the other way round
  none_found : (xs : List T) (n : ℕ) → is_some (first_with number n xs) ≡ false → AllByRecursion (λ x. number x ≡ n → ⊥) xs
  none_found [] n silent = tt
  none_found (x ∷ xs) n silent =
      ⊎_elim
      (λ (its : eqb (number x) n ≡ true). absurd (both_ways _ silent (ap is_some (here x xs n its))))
      (λ (other : eqb (number x) n ≡ false). (eqb-false _ _ other, none_found xs n (ap is_some (sym (passed x xs n other)) ∙ silent)))
      (cases_Bool (eqb (number x) n))

  pub none_with : {V : Type 0} (value : T → V) (xs : List T) (n : ℕ) → is_some (option_map value (first_with number n xs)) ≡ false → AllByRecursion (λ x. number x ≡ n → ⊥) xs
  none_with value xs n silent = none_found xs n (sym (some_mapped value (first_with number n xs)) ∙ silent)

  -- one item more changes nothing of another number
  pub first_push_other : (xs : List T) (y : T) (n : ℕ) → (number y ≡ n → ⊥) → first_with number n (xs ++ y ∷ []) ≡ first_with number n xs
  first_push_other [] y n other = passed y [] n (ne_eqb _ _ other)
  first_push_other (x ∷ xs) y n other = ap (cond (eqb (number x) n) (Some x)) (first_push_other xs y n other)

  -- and is the one with its number, where there was none
  pub first_push : (xs : List T) (y : T) → AllByRecursion (λ x. number x ≡ number y → ⊥) xs → first_with number (number y) (xs ++ y ∷ []) ≡ Some y
  first_push [] y none_of = here y [] (number y) (eq-eqb _ _ refl)
  first_push (x ∷ xs) y none_of = passed x (xs ++ y ∷ []) (number y) (ne_eqb _ _ none_of.0) ∙ first_push xs y none_of.1

  -- one item more, of a new number, leaves no two with one number
  pub once_push : (xs : List T) (y : T) → Once number xs → first_with number (number y) xs ≡ None → Once number (xs ++ y ∷ [])
  once_push xs y once new =
      all_pairs_more (λ x z. number x ≡ number z → ⊥) xs y once (none_found xs (number y) (ap is_some new))

  -- nor do those that are kept from a number on
  pub once_kept : (xs : List T) (least : ℕ) → Once number xs → Once number (from_on number least xs)
  once_kept xs least once = AllPairs-filter (λ x z. number x ≡ number z → ⊥) (λ x. leb least (number x)) xs once

  -- what is kept from a number on has what was found from there on
  pub first-from_on : (xs : List T) (least n : ℕ) → least ≤ n → first_with number n (from_on number least xs) ≡ first_with number n xs
  first-from_on [] least n h = refl
  first-from_on (x ∷ xs) least n h =
      ⊎_elim
      (λ (stays : leb least (number x) ≡ true). rw stays (ap (cond (eqb (number x) n) (Some x)) (first-from_on xs least n h)))
      (λ (goes : leb least (number x) ≡ false). rw goes (first-from_on xs least n h ∙ sym (passed x xs n (ne_eqb _ _ (λ e. omega (arith, leb-false _ _ goes))))))
      (cases_Bool (leb least (number x)))

  -- and nothing below it
  pub first_below : (xs : List T) (least n : ℕ) → n < least → first_with number n (from_on number least xs) ≡ None
  first_below xs least n h =
      first_none (from_on number least xs) n (All-weaker (λ x. leb least (number x) ≡ true) (λ x. number x ≡ n → ⊥) (λ x t e. omega (arith, leb-true _ _ t)) (from_on number least xs) (kept_by_passes (λ x. leb least (number x)) xs))

  -- no more is kept than there was
  pub length-from_on : (xs : List T) (least : ℕ) → length (from_on number least xs) ≤ length xs
  length-from_on xs least =
      omega (arith, length-filter (λ x. leb least (number x)) xs, count_by-le-length (λ x. leb least (number x)) xs)

  -- and less, where an item below the number is found
  pub room_below : {V : Type 0} (value : T → V) (xs : List T) (least n : ℕ) → n < least → is_some (option_map value (first_with number n xs)) ≡ true → length (from_on number least xs) < length xs
  room_below value [] least n h found = absurd (false≢true found)
  room_below value (x ∷ xs) least n h found =
      ⊎_elim
      (λ (stays : leb least (number x) ≡ true).
      let other = passed x xs n (ne_eqb _ _ (λ e. omega (arith, leb-true _ _ stays))) in
      rw stays (omega (arith, room_below value xs least n h (ap (λ o. is_some (option_map value o)) (sym other) ∙ found))))
      (λ (goes : leb least (number x) ≡ false). rw goes (omega (arith, length-from_on xs least)))
      (cases_Bool (leb least (number x)))
