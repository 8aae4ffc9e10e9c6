-- Fields and lines put together again. Assumes nothing.
use Rattle.std.proofs.Common.{◌≡◌, ℕ, Bool, true, false, cond, eqb, List, [], ◌∷◌, ◌++◌, map, sym, refl, ap, ◌∙◌, ⊎_elim}
use Rattle.std.specs.List.{flat_map}
use Rattle.std.proofs.lemmas.Bool.{cases_Bool, cond-true, cond-false, eqb-true, eqb-false}
use Rattle.text.specs.Pieces.{after, before, ends_line, fields, from_byte, led, lines, onto, split, with_commas, CutsMakeTheText, FieldsMakeTheLine, Lacks, LinesMakeTheText, Without}
use Rattle.text.specs.Taken.{with_ends, ToldLinesAreTheLines}
use Rattle.text.proofs.Cutting.{fields_step, lines_step}

cut-whole : (b : ℕ) (t : List ℕ) → before b t ++ from_byte b (after b t) ≡ t
unfolding before after
cut-whole b [] = refl
cut-whole b (c ∷ cs) =
    ⊎_elim
    (λ (e : eqb c b ≡ true). rw e (ap (λ x. x ∷ cs) (sym (eqb-true c b e))))
    (λ (e : eqb c b ≡ false). rw e (ap (λ x. c ∷ x) (cut-whole b cs)))
    (cases_Bool (eqb c b))

before_lacks : (b : ℕ) (t : List ℕ) → Lacks b (before b t)
unfolding before
before_lacks b [] = tt
before_lacks b (c ∷ cs) =
    ⊎_elim
    (λ (e : eqb c b ≡ true). rw e tt)
    (λ (e : eqb c b ≡ false). rw e (eqb-false c b e, before_lacks b cs))
    (cases_Bool (eqb c b))

pub cuts_make_the_text : CutsMakeTheText
cuts_make_the_text b t = (cut-whole b t, before_lacks b t)

onto_without : (b c : ℕ) (ps : List (List ℕ)) → (c ≡ b → ⊥) → Without b ps → Without b (onto c ps)
onto_without b c [] no' h = ((no', tt), tt)
onto_without b c (p ∷ ps) no' h = ((no', h.0), h.1)

split_without : (b : ℕ) (last : List (List ℕ)) → Without b last → (t : List ℕ) → Without b (split b last t)
unfolding split
split_without b last h [] = h
split_without b last h (c ∷ cs) =
    ⊎_elim
    (λ (e : eqb c b ≡ true). rw e (tt, split_without b last h cs))
    (λ (e : eqb c b ≡ false). rw e (onto_without b c (split b last cs) (eqb-false c b e) (split_without b last h cs)))
    (cases_Bool (eqb c b))

-- a field follows each comma
led-fields : (t : List ℕ) → led 44 (fields t) ≡ 44 ∷ with_commas (fields t)
led-fields t = rw (fields_step t)

onto_commas : (c : ℕ) (ps : List (List ℕ)) → with_commas (onto c ps) ≡ c ∷ with_commas ps
onto_commas c [] = refl
onto_commas c (p ∷ ps) = refl

fields-whole : (t : List ℕ) → with_commas (fields t) ≡ t
unfolding split
fields-whole [] = refl
fields-whole (c ∷ cs) =
    ⊎_elim
    (λ (e : eqb c 44 ≡ true). ap with_commas (cond-true _ _ _ e) ∙ led-fields cs ∙ (λ i. sym (eqb-true c 44 e) i ∷ fields-whole cs i))
    (λ (e : eqb c 44 ≡ false). ap with_commas (cond-false _ _ _ e) ∙ onto_commas c (fields cs) ∙ ap (λ x. c ∷ x) (fields-whole cs))
    (cases_Bool (eqb c 44))

pub fields_make_the_line : FieldsMakeTheLine
fields_make_the_line t = (fields-whole t, split_without 44 ([] ∷ []) (tt, tt) t)

-- lines, each with its end
abbrev closed : List (List ℕ) → List ℕ
closed ls = flat_map (λ l. l ++ 10 ∷ []) ls

-- a byte before a text that is not empty goes on to its first line
onto_closed : (c d : ℕ) (ds : List ℕ) → closed (onto c (lines (d ∷ ds))) ≡ c ∷ closed (lines (d ∷ ds))
onto_closed c d ds = rw (lines_step d ds)

-- the end that the text lacks, given the byte before it
abbrev lacked : ℕ → List ℕ → List ℕ
lacked c t = cond (ends_line c t) [] (10 ∷ [])

after_end : (c : ℕ) (cs : List ℕ) → closed (lines cs) ≡ cs ++ lacked 10 cs → c ≡ 10 → 10 ∷ closed (lines cs) ≡ c ∷ (cs ++ lacked c cs)
after_end c cs h e = ap (λ x. 10 ∷ x) h ∙ (λ i. sym e i ∷ (cs ++ lacked (sym e i) cs))

lines-whole : (t : List ℕ) → closed (lines t) ≡ t ++ lacked 10 t
unfolding split
lines-whole [] = refl
lines-whole (c ∷ []) =
    ⊎_elim
    (λ (e : eqb c 10 ≡ true). ap closed (cond-true _ _ _ e) ∙ after_end c [] refl (eqb-true c 10 e))
    (λ (e : eqb c 10 ≡ false). ap closed (cond-false _ _ _ e) ∙ ap (λ x. c ∷ x) (sym (cond-false _ _ _ e)))
    (cases_Bool (eqb c 10))
lines-whole (c ∷ d ∷ ds) =
    ⊎_elim
    (λ (e : eqb c 10 ≡ true). ap closed (cond-true _ _ _ e) ∙ after_end c (d ∷ ds) (lines-whole (d ∷ ds)) (eqb-true c 10 e))
    (λ (e : eqb c 10 ≡ false). ap closed (cond-false _ _ _ e) ∙ onto_closed c d ds ∙ ap (λ x. c ∷ x) (lines-whole (d ∷ ds)))
    (cases_Bool (eqb c 10))

pub lines_make_the_text : LinesMakeTheText
lines_make_the_text t = (lines-whole t, split_without 10 [] tt t)

texts_told : (last : Bool) (ls : List (List ℕ)) → map (λ l. l.0) (with_ends last ls) ≡ ls
texts_told last [] = refl
texts_told last (l ∷ ls) = ap (λ x. l ∷ x) (texts_told last ls)

pub told_lines_are_the_lines : ToldLinesAreTheLines
told_lines_are_the_lines t = texts_told (ends_line 10 t) (lines t)
