-- Writes in turn.
use Rattle.std.proofs.Common.{◌≡◌, ℕ, ◌+◌, ◌<◌, List, [], ◌∷◌, ◌++◌, length, get_or, take, is_ok, Ok, Err, Result, sym, refl, ap, ◌∙◌, append_assoc}
use Rattle.std.specs.List.{flat_map}
use Rattle.std.proofs.lemmas.List.{flat_map_more, take_more}
use Rattle.parts.specs.declared.types.Part.{Part}
use Rattle.text.specs.Appended.{appended}
use Rattle.text.specs.Pieces.{led, with_commas}
use Rattle.answers.specs.Answers.{part_fields}
use Rattle.answers.specs.Rows.{Writes}

-- a write of all or nothing
pub all_written : {A B : Type 0} (r : Result A B) (was is text : List ℕ) → is ≡ appended (is_ok r) was text → Writes r was is text
all_written (Ok x) was is text e = e
all_written (Err y) was is text e = tt

-- a write behind another that was done
pub written_on : {A B : Type 0} (r : Result A B) (was mid is a b : List ℕ) → mid ≡ was ++ a → Writes r mid is b → Writes r was is (a ++ b)
written_on (Ok x) was mid is a b e h = h ∙ ap (λ m. m ++ b) e ∙ append_assoc was a b
written_on (Err y) was mid is a b e h = tt

-- the rows of two lists stand behind one another
pub joined_append : {X A : Type 0} (f : X → List A) (xs ys : List X) → flat_map f (xs ++ ys) ≡ flat_map f xs ++ flat_map f ys
joined_append f [] ys = refl
joined_append f (x ∷ xs) ys = ap (λ t. f x ++ t) (joined_append f xs ys) ∙ sym (append_assoc (f x) (flat_map f xs) (flat_map f ys))

-- more fields behind those that were written
pub led_on : (was mid is : List ℕ) (fs gs : List (List ℕ)) → mid ≡ was ++ led 44 fs → is ≡ mid ++ led 44 gs → is ≡ was ++ led 44 (fs ++ gs)
led_on was mid is fs gs e h =
    h ∙ ap (λ m. m ++ led 44 gs) e ∙ append_assoc was (led 44 fs) (led 44 gs) ∙ ap (λ t. was ++ t) (sym (joined_append (λ p. 44 ∷ p) fs gs))

-- more fields behind the first ones of a row
pub commas_on : (was mid is p : List ℕ) (fs gs : List (List ℕ)) → mid ≡ was ++ with_commas (p ∷ fs) → is ≡ mid ++ led 44 gs → is ≡ was ++ with_commas (p ∷ (fs ++ gs))
commas_on was mid is p fs gs e h =
    h
    ∙ ap (λ m. m ++ led 44 gs) e
    ∙ append_assoc was (p ++ led 44 fs) (led 44 gs)
    ∙ ap (λ t. was ++ t) (append_assoc p (led 44 fs) (led 44 gs) ∙ ap (λ t. p ++ t) (sym (joined_append (λ q. 44 ∷ q) fs gs)))

-- the fields of one part more
pub part_more : (was mid is : List ℕ) (xs : List Part) (i : ℕ) (d : Part) → i < length xs → mid ≡ was ++ led 44 (flat_map part_fields (take i xs)) → is ≡ mid ++ led 44 (part_fields (get_or xs i d)) → is ≡ was ++ led 44 (flat_map part_fields (take (i + 1) xs))
part_more was mid is xs i d lt e h =
    led_on was mid is (flat_map part_fields (take i xs)) (part_fields (get_or xs i d)) e h
    ∙ ap (λ fs. was ++ led 44 fs) (flat_map_more part_fields [] (take i xs) (get_or xs i d) ∙ ap (flat_map part_fields) (sym (take_more xs i d lt)))
