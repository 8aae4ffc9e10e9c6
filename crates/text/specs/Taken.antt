-- How a line is read field by field, and a text line by line. Assumes nothing.
use Rattle.std.specs.Prelude.{◌≡◌, ℕ, Bool, true, false, cond, not, ◌||◌, List, [], ◌∷◌, map, Some, None, unwrap_or, Option}
use Rattle.std.specs.Option.{option_map}
use Rattle.text.specs.declared.fields.Fields.{Fields}
use Rattle.text.specs.declared.lines.Line.{Line}
use Rattle.text.specs.declared.lines.Lines.{Lines}
use Rattle.text.specs.Numbers.{and_then, number}
use Rattle.text.specs.Pieces.{after, ends_line, lines, pending}

-- the next piece, if one is left
abbrev pub next_of : List (List ℕ) → Option (List ℕ)
next_of [] = None
next_of (p ∷ ps) = Some p

-- the pieces after the next
abbrev pub after_next : List (List ℕ) → List (List ℕ)
after_next [] = []
after_next (p ∷ ps) = ps

-- no piece is left
abbrev pub is_none : List (List ℕ) → Bool
is_none [] = true
is_none (p ∷ ps) = false

-- what `read` makes of the next piece
abbrev pub read_next : {A : Type 0} → (List ℕ → Option A) → List (List ℕ) → Option A
read_next read ps = and_then (next_of ps) read

-- the next field is read by `read`, and what it gave and the other fields go on to `more`
abbrev pub reading : {A B : Type 0} → (List ℕ → Option A) → List (List ℕ) → (A → List (List ℕ) → Option B) → Option B
reading read fs more = and_then (read_next read fs) (λ a. more a (after_next fs))

-- the next field is a number
abbrev pub numbered : {B : Type 0} → List (List ℕ) → (ℕ → List (List ℕ) → Option B) → Option B
numbered fs more = reading number fs more

-- no field is left, and `x` is what was read
abbrev pub ended : {B : Type 0} → List (List ℕ) → B → Option B
ended fs x = cond (is_none fs) (Some x) None

-- the fields that a reader has left
abbrev pub left : Fields → List (List ℕ)
left f = pending (option_map (λ x. x.now) f.rest)

-- what a reader has left of its text
abbrev pub text_left : Lines → List ℕ
text_left l = l.rest.now

-- what follows the first line of a text
abbrev pub after_line : List ℕ → List ℕ
after_line t = unwrap_or (after 10 t) []

-- lines, each with whether it has its end: the last may lack it
abbrev pub with_ends : Bool → List (List ℕ) → List (List ℕ × Bool)
with_ends last [] = []
with_ends last (p ∷ ps) = (p, not (is_none ps) || last) ∷ with_ends last ps

-- the lines of a text, each with whether it has its end
abbrev pub told_lines : List ℕ → List (List ℕ × Bool)
told_lines t = with_ends (ends_line 10 t) (lines t)

-- the lines that a reader has left
abbrev pub lines_left : Lines → List (List ℕ × Bool)
lines_left l = told_lines (text_left l)

-- what a reader tells of a line
abbrev pub told : Line → List ℕ × Bool
told l = (l.text.now, l.ended)

-- the lines that are told are the lines of the text
abbrev pub ToldLinesAreTheLines : Type 0
ToldLinesAreTheLines = (t : List ℕ) → map (λ l. l.0) (told_lines t) ≡ lines t
