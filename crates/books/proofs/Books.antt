-- The first records of the storage, and changes among them.
use Rattle.std.proofs.Common.{◌≡◌, ℕ, zero, suc, ◌+◌, Bool, true, false, cond, List, [], ◌∷◌, ◌++◌, length, take, set, refl, ap, ◌∙◌}
use Rattle.std.proofs.lemmas.List.{length-set, length_push}
use Rattle.std.proofs.lemmas.Option.{gets}

pub take_of_set : {R : Type 0} (n : ℕ) (rs : List R) (i : ℕ) (r : R) → take n (set rs i r) ≡ set (take n rs) i r
take_of_set zero [] i r = refl
take_of_set zero (x ∷ xs) i r = refl
take_of_set (suc n) [] i r = refl
take_of_set (suc n) (x ∷ xs) zero r = refl
take_of_set (suc n) (x ∷ xs) (suc i) r = ap (λ ys. x ∷ ys) (take_of_set n xs i r)

-- as many as there are among the first n are the first n
pub take_capped : {X : Type 0} (n : ℕ) (xs : List X) → take (length (take n xs)) xs ≡ take n xs
take_capped zero xs = refl
take_capped (suc n) [] = refl
take_capped (suc n) (x ∷ xs) = ap (λ zs. x ∷ zs) (take_capped n xs)

-- one record entered is one more, and one refused is none
pub length_entered : {R : Type 0} (r : Bool) (rs ws : List R) (it : R) → ws ≡ cond r (rs ++ it ∷ []) rs → length ws ≡ cond r (length rs + 1) (length rs)
length_entered true rs ws it e = ap length e ∙ length_push rs it
length_entered false rs ws it e = ap length e

pub ruleset replacing = (gets, take_of_set, length-set)
