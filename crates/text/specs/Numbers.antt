-- Numbers as they are read: decimal, with no leading zero. Assumes nothing.
use Rattle.std.specs.Prelude.{◌≡◌, ℕ, ◌+◌, ◌-◌, ◌*◌, ◌^◌, ◌<◌, Bool, cond, not, ◌&&◌, ◌||◌, List, length, Some, None, decimal, fold, Option, ◌==◌, nat_lt, slice_index}
use Rattle.std.specs.Str.{all_ascii_digits}

-- what is made of a value, where there is one
abbrev pub and_then : {A B : Type 0} → Option A → (A → Option B) → Option B
and_then None more = None
and_then (Some a) more = more a

-- what digits are worth
abbrev pub worth : List ℕ → ℕ
worth t = fold (λ n c. n * 10 + (c - 48)) 0 t

-- not empty, and with no leading zero but in `0` itself
abbrev pub unpadded : List ℕ → Bool
unpadded t = nat_lt 0 (length t) && (not (slice_index t 0 == 48) || length t == 1)

-- the number that a text writes, where it writes one of 32 bits
unfoldable pub number : List ℕ → Option ℕ
number t = cond (unpadded t && (all_ascii_digits t && nat_lt (worth t) (2 ^ 32))) (Some (worth t)) None

-- the same, where the number is below a limit
abbrev pub number_below : ℕ → List ℕ → Option ℕ
number_below limit t = and_then (number t) (λ n. cond (nat_lt n limit) (Some n) None)

-- what is written reads back
abbrev pub ReadsBack : Type 0
ReadsBack = (n : ℕ) → n < 2 ^ 32 → number (decimal n) ≡ Some n

-- a number is read from no text but the one that is written of it
abbrev pub ReadsOnlyWritten : Type 0
ReadsOnlyWritten = (t : List ℕ) (n : ℕ) → number t ≡ Some n → (t ≡ decimal n) × (n < 2 ^ 32)
