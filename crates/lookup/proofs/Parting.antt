-- What the place between the records up to a limit and the others says of the whole list.
use Rattle.std.proofs.Common.{◌≡◌, ℕ, zero, suc, ◌+◌, ◌-◌, ◌<◌, ◌≤◌, Bool, true, false, cond, eqb, leb, List, [], ◌∷◌, length, get_or, take, Some, None, fold, Option, sym, refl, ap, ◌∙◌, subst, ⊎_elim, arith, MatchOption}
use Rattle.std.proofs.lemmas.List.Sums.{fold_more, sum_by-cons}
use Rattle.std.specs.Bool.{then_some}
use Rattle.std.proofs.lemmas.List.{get_or_read}
use Rattle.std.proofs.lemmas.Bool.{cond-true, cond-false, leb-true, leb-false, le-leb, lt-leb, eq-eqb, ne_eqb, cases_lt, cases_order}
use Rattle.lookup.specs.Order.{Rising, Parted, Greatest, how_many_up_to, last_up_to, first_with}

-- the records before `low` have keys up to the limit, and those from `high` on have greater ones
abbrev pub Halved : {X : Type 0} → (X → ℕ) → ℕ → List X → ℕ → ℕ → Type 0
Halved {X} key limit xs low high = ((k : ℕ) (d : X) → k < low → key (get_or xs k d) ≤ limit) × ((k : ℕ) (d : X) → high ≤ k → k < length xs → limit < key (get_or xs k d))

module _ {X : Type 0} (key : X → ℕ) (limit : ℕ) where
  -- a record in the middle moves one of the two ends
  pub low_raised : (xs : List X) (low high i : ℕ) (x : X) (test : Bool) → Rising key xs → i < length xs → x ≡ get_or xs i x → test ≡ leb (key x) limit → test ≡ true → Halved key limit xs low high → Halved key limit xs (i + 1) high
  low_raised xs low high i x test rise in' is tests taken h =
      let small : key x ≤ limit = leb-true (key x) limit (sym tests ∙ taken) in
      let at : (d : X) → key (get_or xs i d) ≤ limit = λ d. subst (λ (y : X). key y ≤ limit) (get_or_read xs i x in' is d) small in (
        (λ k d less.
            ⊎_elim
            (λ before. let a = at d in let r = rise k i d before in' in omega arith)
            (λ from. let same : i ≡ k = omega arith in subst (λ (m : ℕ). key (get_or xs m d) ≤ limit) same (at d))
            (cases_lt k i)),
        h.1,
      )

  pub high_lowered : (xs : List X) (low high i : ℕ) (x : X) (test : Bool) → Rising key xs → i < length xs → x ≡ get_or xs i x → test ≡ leb (key x) limit → test ≡ false → Halved key limit xs low high → Halved key limit xs low i
  high_lowered xs low high i x test rise in' is tests left h =
      let great : limit < key x = leb-false (key x) limit (sym tests ∙ left) in
      let at : (d : X) → limit < key (get_or xs i d) = λ d. subst (λ (y : X). limit < key y) (get_or_read xs i x in' is d) great in (
        h.0,
        λ k d from within.
            ⊎_elim
            (λ after. let a = at d in let r = rise i k d after within in omega arith)
            (λ to. let same : i ≡ k = omega arith in subst (λ (m : ℕ). limit < key (get_or xs m d)) same (at d))
            (cases_lt i k),
      )

  -- the later of two finds
  abbrev later : Option X → X → Option X
  later o x = cond (leb (key x) limit) (Some x) o

  -- past the place nothing is found
  up_to_place : (xs : List X) (n : ℕ) (o : Option X) → ((k : ℕ) (d : X) → n ≤ k → k < length xs → limit < key (get_or xs k d)) → fold later o xs ≡ fold later o (take n xs)
  up_to_place [] zero o above = refl
  up_to_place [] (suc n) o above = refl
  up_to_place (x ∷ xs) zero o above =
      let passed : later o x ≡ o = cond-false (leb (key x) limit) (Some x) o (lt-leb (key x) limit (above 0 x (omega arith) (omega arith))) in
      up_to_place xs zero (later o x) (λ k d low in'. above (suc k) d (omega arith) (omega arith)) ∙ passed
  up_to_place (x ∷ xs) (suc n) o above = up_to_place xs n (later o x) (λ k d low in'. above (suc k) d (omega arith) (omega arith))

  none_up_to : (xs : List X) → Parted key limit xs 0 → last_up_to key limit xs ≡ None
  none_up_to xs p = up_to_place xs 0 None p.1

  last-at : (xs : List X) (n : ℕ) (d : X) → n < length xs → Parted key limit xs (n + 1) → last_up_to key limit xs ≡ Some (get_or xs n d)
  last-at xs n d in' p =
      up_to_place xs (n + 1) None p.1
      ∙ fold_more later None xs n d in'
      ∙ cond-true (leb (key (get_or xs n d)) limit) (Some (get_or xs n d)) (fold later None (take n xs)) (le-leb (key (get_or xs n d)) limit (p.0 n d (omega arith)))

  -- the record before the place is the last up to the limit
  pub last_is : (xs : List X) (n : ℕ) (r : Option X) → n ≤ length xs → Parted key limit xs n → MatchOption r (n ≡ 0) (λ x. (0 < n) × (x ≡ get_or xs (n - 1) x)) → r ≡ last_up_to key limit xs
  last_is xs n None high p none = sym (none_up_to xs (subst (λ (m : ℕ). Parted key limit xs m) none p))
  last_is xs n (Some x) high p h =
      let same : n ≡ (n - 1) + 1 = omega (arith, h.0) in
      let within : n - 1 < length xs = omega (arith, h.0) in
      ap Some h.1 ∙ sym (last-at xs (n - 1) x within (subst (λ (m : ℕ). Parted key limit xs m) same p))

  -- and where the keys rise, it has the greatest key up to the limit
  pub greatest_is : (xs : List X) (n : ℕ) (r : Option X) → Rising key xs → n ≤ length xs → Parted key limit xs n → MatchOption r (n ≡ 0) (λ x. (0 < n) × (x ≡ get_or xs (n - 1) x)) → Greatest key limit xs r
  greatest_is xs n None rise high p none = λ k d within. p.1 k d (omega arith) within
  greatest_is xs n (Some x) rise high p h =
      let within : n - 1 < length xs = omega (arith, h.0) in
      let is : (d : X) → x ≡ get_or xs (n - 1) d = λ d. get_or_read xs (n - 1) x within h.1 d in
      let small : key x ≤ limit = subst (λ (y : X). key y ≤ limit) (sym (is x)) (p.0 (n - 1) x (omega (arith, h.0))) in (
        (n - 1, within, λ d. sym (is d)),
        small,
        λ k d inside upto.
            let same : key x ≡ key (get_or xs (n - 1) d) = ap key (is d) in
            ⊎_elim
            (λ before. let r = rise k (n - 1) d before within in omega arith)
            (λ from.
            ⊎_elim
            (λ after. let q = p.1 k d (omega arith) inside in absurd (omega arith))
            (λ to. let at : k ≡ n - 1 = omega arith in let e = ap (λ (m : ℕ). key (get_or xs m d)) at in omega arith)
            (cases_lt (n - 1) k))
            (cases_lt k (n - 1)),
      )

  -- the place is the count
  pub place_counts : (xs : List X) (n : ℕ) → n ≤ length xs → Parted key limit xs n → n ≡ how_many_up_to key limit xs
  place_counts [] n high p = omega arith
  place_counts (x ∷ xs) zero high p =
      let one = sum_by-cons (λ (y : X). cond (leb (key y) limit) 1 0) x xs in
      let out : ◌≡◌ {A = ℕ} (cond (leb (key x) limit) 1 0) 0 = cond-false (leb (key x) limit) 1 0 (lt-leb (key x) limit (p.1 0 x (omega arith) (omega arith))) in
      let rest = place_counts xs zero (omega arith) ((λ k d low. absurd (omega arith)), λ k d low in'. p.1 (suc k) d (omega arith) (omega arith)) in
      omega arith
  place_counts (x ∷ xs) (suc n) high p =
      let one = sum_by-cons (λ (y : X). cond (leb (key y) limit) 1 0) x xs in
      let counts : ◌≡◌ {A = ℕ} (cond (leb (key x) limit) 1 0) 1 = cond-true (leb (key x) limit) 1 0 (le-leb (key x) limit (p.0 0 x (omega arith))) in
      let rest = place_counts xs n (omega arith) ((λ k d low. p.0 (suc k) d (omega arith)), λ k d low in'. p.1 (suc k) d (omega arith) (omega arith)) in
      omega arith

  -- a record, if it has that very key
  abbrev hit : Option X → Option X
  hit None = None
  hit (Some x) = cond (eqb (key x) limit) (Some x) None

  -- where the keys rise, the last record up to a key has it, or none has
  hit_later : (xs : List X) (o : Option X) → Rising key xs → hit o ≡ None → hit (fold later o xs) ≡ first_with key limit xs
  hit_later [] o rise none = none
  hit_later (x ∷ xs) o rise none =
      let more : Rising key xs = λ j k d less within. rise (suc j) (suc k) d (omega arith) (omega arith) in
      ⊎_elim
      (λ same.
      let found : later o x ≡ Some x = cond-true (leb (key x) limit) (Some x) o (le-leb (key x) limit (omega arith)) in
      let stays : fold later (Some x) xs ≡ Some x = up_to_place xs 0 (Some x) (λ k d low in'. let r = rise 0 (suc k) d (omega arith) (omega arith) in omega arith) in
      ap (λ (p : Option X). hit (fold later p xs)) found
      ∙ ap hit stays
      ∙ cond-true (eqb (key x) limit) (Some x) None (eq-eqb (key x) limit same)
      ∙ sym (cond-true (eqb (key x) limit) (Some x) (first_with key limit xs) (eq-eqb (key x) limit same)))
      (⊎_elim
      (λ less.
      let other : eqb (key x) limit ≡ false = ne_eqb (key x) limit (λ e. omega arith) in
      let found : later o x ≡ Some x = cond-true (leb (key x) limit) (Some x) o (le-leb (key x) limit (omega arith)) in
      ap (λ (p : Option X). hit (fold later p xs)) found
      ∙ hit_later xs (Some x) more (cond-false (eqb (key x) limit) (Some x) None other)
      ∙ sym (cond-false (eqb (key x) limit) (Some x) (first_with key limit xs) other))
      (λ greater.
      let other : eqb (key x) limit ≡ false = ne_eqb (key x) limit (λ e. omega arith) in
      let passed : later o x ≡ o = cond-false (leb (key x) limit) (Some x) o (lt-leb (key x) limit greater) in
      ap (λ (p : Option X). hit (fold later p xs)) passed
      ∙ hit_later xs o more none
      ∙ sym (cond-false (eqb (key x) limit) (Some x) (first_with key limit xs) other)))
      (cases_order (key x) limit)

  some_if : (b : Bool) (x : X) → then_some b x ≡ cond b (Some x) None
  some_if true x = refl
  some_if false x = refl

  -- what is kept of the last record up to a key, where its key is tested
  kept : (o r : Option X) (Gives : X → Bool → Type 0) → ((x : X) (b : Bool) → Gives x b → b ≡ eqb (key x) limit) → MatchOption o (r ≡ None) (λ x. (b : Bool) × Gives x b × (r ≡ then_some b x)) → r ≡ hit o
  kept None r Gives says none = none
  kept (Some x) r Gives says (b, gives, is) = is ∙ some_if b x ∙ ap (λ v. cond v (Some x) None) (says x b gives)

  pub hit_found : (xs : List X) (o r : Option X) (Gives : X → Bool → Type 0) → Rising key xs → o ≡ last_up_to key limit xs → ((x : X) (b : Bool) → Gives x b → b ≡ eqb (key x) limit) → MatchOption o (r ≡ None) (λ x. (b : Bool) × Gives x b × (r ≡ then_some b x)) → r ≡ first_with key limit xs
  hit_found xs o r Gives rise last says is = kept o r Gives says is ∙ ap hit last ∙ hit_later xs None rise refl
