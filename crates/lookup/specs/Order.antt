-- Records in the order of their keys, and what a search among them finds.
use Rattle.std.specs.List.{AllPairs}
use Rattle.std.specs.Prelude.{ℕ, ◌<◌, ◌≤◌, cond, leb, List, [], ◌∷◌, length, Some, None, fold, count_by, Option, ◌==◌, nat_le, slice_index_or}
use Rattle.std.specs.List.{ContainsAt as Has}

-- the keys rise: each is greater than those before it
abbrev pub Rising : {X : Type 0} → (X → ℕ) → List X → Type 0
Rising key xs = AllPairs (λ x y. key x < key y) xs

-- how many records have a key up to the limit
abbrev pub how_many_up_to : {X : Type 0} → (X → ℕ) → ℕ → List X → ℕ
how_many_up_to key limit xs = count_by (λ x. leb (key x) limit) xs

-- the last record with a key up to the limit
abbrev pub last_up_to : {X : Type 0} → (X → ℕ) → ℕ → List X → Option X
last_up_to key limit xs = fold (λ o x. cond (nat_le (key x) limit) (Some x) o) None xs

-- the first record with that key
abbrev pub first_with : {X : Type 0} → (X → ℕ) → ℕ → List X → Option X
first_with key k [] = None
first_with key k (x ∷ xs) = cond (key x == k) (Some x) (first_with key k xs)

-- the first n records have keys up to the limit, and the others have greater ones
abbrev pub Parted : {X : Type 0} → (X → ℕ) → ℕ → List X → ℕ → Type 0
Parted {X} key limit xs n = ((k : ℕ) (d : X) → k < n → key (slice_index_or xs k d) ≤ limit) × ((k : ℕ) (d : X) → n ≤ k → k < length xs → limit < key (slice_index_or xs k d))

-- the record with the greatest key up to the limit; where there is none, all keys are greater
abbrev pub Greatest : {X : Type 0} → (X → ℕ) → ℕ → List X → Option X → Type 0
Greatest {X} key limit xs None = (k : ℕ) (d : X) → k < length xs → limit < key (slice_index_or xs k d)
Greatest {X} key limit xs (Some x) = Has xs x × (key x ≤ limit) × ((k : ℕ) (d : X) → k < length xs → key (slice_index_or xs k d) ≤ limit → key (slice_index_or xs k d) ≤ key x)
