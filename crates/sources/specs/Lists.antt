-- What a list has of its items' numbers.
use Rattle.std.specs.Prelude.{ℕ, List, AllPairs, filter, ◌≢◌, nat_le}

-- the items with that number or a higher one, in their order
abbrev pub from_on : {T : Type 0} → (T → ℕ) → ℕ → List T → List T
from_on number n xs = filter (λ x. nat_le n (number x)) xs

-- no two items have one number
abbrev pub Once : {T : Type 0} → (T → ℕ) → List T → Type 0
Once number xs = AllPairs (λ x y. number x ≢ number y) xs
