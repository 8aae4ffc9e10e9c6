-- Tests of a list, and free records.
use Rattle.std.proofs.Common.{◌≡◌, ℕ, ◌+◌, Bool, ◌||◌, ltb, List, [], ◌∷◌, refl, ap, arith}
use Rattle.std.specs.List.{list_any}
use Rattle.std.proofs.lemmas.Bool.Decides.{nat_tests}
use Rattle.rules.specs.Books.{any}

-- the rules' word for a test that some element passes is std's
pub any_is : {X : Type 0} (g : X → Bool) (xs : List X) → any g xs ≡ list_any g xs
any_is g [] = refl
any_is g (x ∷ xs) = ap (λ b. g x || b) (any_is g xs)

-- free records fewer than wanted, said by what is kept
pub lacking : (f n r k : ℕ) → f + n ≡ r → ltb f k ≡ ltb r (n + k)
lacking f n r k h = grind (arith, nat_tests)
