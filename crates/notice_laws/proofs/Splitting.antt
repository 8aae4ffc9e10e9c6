-- Texts put together from pieces, and cut again.
use Rattle.std.proofs.Common.{◌≡◌, ℕ, true, false, eqb, List, [], ◌∷◌, ◌++◌, sym, refl, ap, ◌∙◌, ⊎_elim, append-nil}
use Rattle.std.proofs.ByRecursion.{All-append}
use Rattle.std.proofs.lemmas.Bool.{cases_Bool, cond-true, cond-false, eq-eqb, eqb-true, ne_eqb}
use Rattle.text.specs.Pieces.{fields, led, onto, split, with_commas, Lacks, Without}
use Rattle.text.specs.Taken.{is_none}
use Rattle.notice.specs.Notices.{pieces}

-- a piece, and what follows its byte
pub split_at : (b : ℕ) (last : List (List ℕ)) (l r : List ℕ) → Lacks b l → split b last (l ++ b ∷ r) ≡ l ∷ split b last r
unfolding split
split_at b last [] r none = cond-true _ _ _ (eq-eqb b b refl)
split_at b last (c ∷ cs) r none = cond-false _ _ _ (ne_eqb c b none.0) ∙ ap (onto c) (split_at b last cs r none.1)

-- a text without the byte is one piece
pub split_alone : (b : ℕ) (l : List ℕ) → Lacks b l → split b ([] ∷ []) l ≡ l ∷ []
unfolding split
split_alone b [] none = refl
split_alone b (c ∷ cs) none = cond-false _ _ _ (ne_eqb c b none.0) ∙ ap (onto c) (split_alone b cs none.1)

-- fields with commas between them are those fields
pub fields_of : (p : List ℕ) (ps : List (List ℕ)) → Without 44 (p ∷ ps) → fields (with_commas (p ∷ ps)) ≡ p ∷ ps
fields_of p [] none = ap fields (append-nil p) ∙ split_alone 44 p none.0
fields_of p (q ∷ qs) none = split_at 44 ([] ∷ []) p (with_commas (q ∷ qs)) none.0 ∙ ap (λ r. p ∷ r) (fields_of q qs none.1)

-- and lack what none of them has
led_lack : (b : ℕ) → (44 ≡ b → ⊥) → (ps : List (List ℕ)) → Without b ps → Lacks b (led 44 ps)
led_lack b comma [] none = tt
led_lack b comma (p ∷ ps) none = All-append (λ c. c ≡ b → ⊥) (44 ∷ p) (led 44 ps) (comma, none.0) (led_lack b comma ps none.1)

pub commas_lack : (b : ℕ) → (44 ≡ b → ⊥) → (p : List ℕ) (ps : List (List ℕ)) → Without b (p ∷ ps) → Lacks b (with_commas (p ∷ ps))
commas_lack b comma p ps none = All-append (λ c. c ≡ b → ⊥) p (led 44 ps) none.0 (led_lack b comma ps none.1)

-- there is always a piece
pub record SomePiece (ps : List (List ℕ)) : Type 0 where
  pub first : List ℕ
  pub others : List (List ℕ)
  pub is : ps ≡ first ∷ others

pub some_piece : (b : ℕ) (t : List ℕ) → SomePiece (split b ([] ∷ []) t)
unfolding split
some_piece b [] = record { first = []; others = []; is = refl }
some_piece b (c ∷ cs) =
    ⊎_elim
    (λ (e : eqb c b ≡ true). record { first = []; others = split b ([] ∷ []) cs; is = cond-true _ _ _ e })
    (λ (e : eqb c b ≡ false). let s = some_piece b cs in record { first = c ∷ s.first; others = s.others; is = cond-false _ _ _ e ∙ ap (onto c) s.is })
    (cases_Bool (eqb c b))

pub some_left : (t : List ℕ) → is_none (pieces t) ≡ false
some_left t = ap is_none (some_piece 10 t).is

-- pieces, with the byte between one and the next
abbrev pub with_byte : ℕ → List (List ℕ) → List ℕ
with_byte b [] = []
with_byte b (p ∷ ps) = p ++ led b ps

led_some : (b : ℕ) (ps : List (List ℕ)) → SomePiece ps → led b ps ≡ b ∷ with_byte b ps
led_some b ps s = ap (led b) s.is ∙ sym (ap (λ qs. b ∷ with_byte b qs) s.is)

onto_byte : (b c : ℕ) (ps : List (List ℕ)) → with_byte b (onto c ps) ≡ c ∷ with_byte b ps
onto_byte b c [] = refl
onto_byte b c (p ∷ ps) = refl

-- the pieces of a text are the text again
pub split-whole : (b : ℕ) (t : List ℕ) → with_byte b (split b ([] ∷ []) t) ≡ t
unfolding split
split-whole b [] = refl
split-whole b (c ∷ cs) =
    ⊎_elim
    (λ (e : eqb c b ≡ true). ap (with_byte b) (cond-true _ _ _ e) ∙ led_some b (split b ([] ∷ []) cs) (some_piece b cs) ∙ (λ i. sym (eqb-true c b e) i ∷ split-whole b cs i))
    (λ (e : eqb c b ≡ false). ap (with_byte b) (cond-false _ _ _ e) ∙ onto_byte b c (split b ([] ∷ []) cs) ∙ ap (λ x. c ∷ x) (split-whole b cs))
    (cases_Bool (eqb c b))

-- a line is known by its fields
pub line_of : (t p : List ℕ) (ps : List (List ℕ)) → fields t ≡ p ∷ ps → t ≡ with_commas (p ∷ ps)
line_of t p ps e = sym (split-whole 44 t) ∙ ap (with_byte 44) e
