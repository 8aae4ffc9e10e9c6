-- The fields of a line and the lines of a text: pieces between one byte and the next. Assumes nothing.
use Rattle.std.specs.Prelude.{◌≡◌, ℕ, Bool, cond, List, [], ◌∷◌, ◌++◌, Some, None, Option, ◌==◌, ◌≢◌}
use Rattle.std.specs.List.{flat_map, AllByRecursion}

-- one byte more at the front of the first piece
abbrev pub onto : ℕ → List (List ℕ) → List (List ℕ)
onto c [] = (c ∷ []) ∷ []
onto c (p ∷ ps) = (c ∷ p) ∷ ps

-- the pieces of a text between one `b` and the next, with `last` where the text ends
unfoldable pub split : ℕ → List (List ℕ) → List ℕ → List (List ℕ)
split b last [] = last
split b last (c ∷ cs) = cond (c == b) ([] ∷ split b last cs) (onto c (split b last cs))

-- the fields of a line stand between commas: there is always one, which may be empty
abbrev pub fields : List ℕ → List (List ℕ)
fields t = split 44 ([] ∷ []) t

-- a line ends with byte 10, which the last may lack
abbrev pub lines : List ℕ → List (List ℕ)
lines t = split 10 [] t

-- what stands before the first `b`
unfoldable pub before : ℕ → List ℕ → List ℕ
before b [] = []
before b (c ∷ cs) = cond (c == b) [] (c ∷ before b cs)

-- what follows the first `b`
unfoldable pub after : ℕ → List ℕ → Option (List ℕ)
after b [] = None
after b (c ∷ cs) = cond (c == b) (Some cs) (after b cs)

-- the fields that are left of a line, given what follows the last that was taken
abbrev pub pending : Option (List ℕ) → List (List ℕ)
pending None = []
pending (Some t) = fields t

-- a byte and what follows it, where it was found
abbrev pub from_byte : ℕ → Option (List ℕ) → List ℕ
from_byte b None = []
from_byte b (Some u) = b ∷ u

-- no byte of the text is `b`
abbrev pub Lacks : ℕ → List ℕ → Type 0
Lacks b t = AllByRecursion (λ c. c ≢ b) t

-- the parts of a text that is cut are the text again, and the first has not the byte
abbrev pub CutsMakeTheText : Type 0
CutsMakeTheText = (b : ℕ) (t : List ℕ) → (before b t ++ from_byte b (after b t) ≡ t) × Lacks b (before b t)

-- pieces, each with `b` before it
abbrev pub led : ℕ → List (List ℕ) → List ℕ
led b ps = flat_map (λ p. b ∷ p) ps

-- pieces with a comma between one and the next
abbrev pub with_commas : List (List ℕ) → List ℕ
with_commas [] = []
with_commas (p ∷ ps) = p ++ led 44 ps

-- no piece has the byte
abbrev pub Without : ℕ → List (List ℕ) → Type 0
Without b ps = AllByRecursion (Lacks b) ps

-- the fields are the line again, with commas between them, and have none
abbrev pub FieldsMakeTheLine : Type 0
FieldsMakeTheLine = (t : List ℕ) → (with_commas (fields t) ≡ t) × Without 44 (fields t)

-- whether a text ends with byte 10, given the byte before it
abbrev pub ends_line : ℕ → List ℕ → Bool
ends_line last [] = last == 10
ends_line last (c ∷ cs) = ends_line c cs

-- the lines, each with its end, are the text again, but for a last end that it lacks, and have no end within
abbrev pub LinesMakeTheText : Type 0
LinesMakeTheText = (t : List ℕ) → (flat_map (λ l. l ++ 10 ∷ []) (lines t) ≡ t ++ cond (ends_line 10 t) [] (10 ∷ [])) × Without 10 (lines t)
