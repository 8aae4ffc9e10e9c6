-- For those who keep records in order: how the keys go on rising, and what is found of the records' values.
use Rattle.std.proofs.Common.{◌≡◌, ℕ, ◌-◌, ◌<◌, Bool, true, false, cond, leb, List, [], ◌∷◌, ◌++◌, length, get_or, Some, None, fold, Option, refl, ap, ◌∙◌, ⊎_elim, arith}
use Rattle.std.specs.Option.{option_map}
use Rattle.std.proofs.lemmas.List.{get_or_default, get_or_append_left, get_or_push, length_push}
use Rattle.std.proofs.lemmas.Bool.{cases_lt}
use Rattle.lookup.specs.Order.{Rising, last_up_to}

module _ {X : Type 0} (key : X → ℕ) where
  -- keys that rise as read at one default rise
  pub rising_from : (xs : List X) (e : X) → ((j k : ℕ) → j < k → k < length xs → key (get_or xs j e) < key (get_or xs k e)) → Rising key xs
  rising_from xs e h =
      λ j k d less within.
      let a = ap key (get_or_default xs j d e (omega arith)) in
      let b = ap key (get_or_default xs k d e within) in
      let r = h j k less within in
      omega arith

  pub rising_none : Rising key []
  rising_none = λ j k d less within. absurd (omega arith)

  -- a record with a greater key than the last may follow
  pub rising_push : (xs : List X) (x : X) → Rising key xs → ((d : X) → 0 < length xs → key (get_or xs (length xs - 1) d) < key x) → Rising key (xs ++ (x ∷ []))
  rising_push xs x rise last =
      λ j k d less within.
      let len = length_push xs x in
      let before : get_or (xs ++ (x ∷ [])) j d ≡ get_or xs j d = get_or_append_left xs (x ∷ []) d j (omega arith) in
      let a = ap key before in
      ⊎_elim
      (λ inside.
      let b = ap key (get_or_append_left xs (x ∷ []) d k inside) in
      let r = rise j k d less inside in
      omega arith)
      (λ end.
      let b = ap key (get_or_push xs x d k (omega arith)) in
      let l = last d (omega arith) in
      ⊎_elim
      (λ earlier. let r = rise j (length xs - 1) d earlier (omega arith) in omega arith)
      (λ same. let last-one : j ≡ length xs - 1 = omega arith in let e = ap (λ (m : ℕ). key (get_or xs m d)) last-one in omega arith)
      (cases_lt j (length xs - 1)))
      (cases_lt k (length xs))

-- the value of the last record up to a limit is the last value up to it
module _ {X Y : Type 0} (key : X → ℕ) (value : X → Y) (limit : ℕ) where
  abbrev later : Option X → X → Option X
  later o x = cond (leb (key x) limit) (Some x) o

  abbrev later-value : Option Y → X → Option Y
  later-value o x = cond (leb (key x) limit) (Some (value x)) o

  value_of_later : (b : Bool) (o : Option X) (x : X) → cond b (Some (value x)) (option_map value o) ≡ option_map value (cond b (Some x) o)
  value_of_later true o x = refl
  value_of_later false o x = refl

  values_follow : (xs : List X) (o : Option X) → fold later-value (option_map value o) xs ≡ option_map value (fold later o xs)
  values_follow [] o = refl
  values_follow (x ∷ xs) o = ap (λ (p : Option Y). fold later-value p xs) (value_of_later (leb (key x) limit) o x) ∙ values_follow xs (later o x)

  pub last-value : (xs : List X) → fold (λ (o : Option Y) (x : X). cond (leb (key x) limit) (Some (value x)) o) None xs ≡ option_map value (last_up_to key limit xs)
  last-value xs = values_follow xs None
