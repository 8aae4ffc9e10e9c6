-- The lines of a notice, as a reader tells them.
use Rattle.std.proofs.Common.{◌≡◌, ℕ, zero, suc, ◌+◌, ◌<◌, ◌≤◌, Bool, true, false, cond, not, ◌&&◌, eqb, List, [], ◌∷◌, length, is_some, Some, None, Ok, Err, unwrap_or, Option, Result, sym, refl, ap, ◌∙◌, ⊎_elim, arith}
use Rattle.std.proofs.lemmas.Bool.{cases_Bool, cond-true, cond-false, ne_eqb}
use Rattle.text.specs.Pieces.{after, before, ends_line, lines, onto, split}
use Rattle.text.specs.Taken.{is_none, told_lines, with_ends}
use Rattle.text.proofs.Cutting.{after_shorter, told_step}
use Rattle.notice_text.specs.declared.entry.Entry.{Entry}
use Rattle.notice_text.specs.Lines.{line_entry}
use Rattle.notice.specs.declared.tables.Place.{Place}
use Rattle.sources.specs.Board.{Figures}
use Rattle.notice.specs.Notices.{last_dates, on_line, pieces, read_lines, with_entry}

-- pieces as lines: the last is none where it is empty
abbrev as_lines : List (List ℕ) → List (List ℕ × Bool)
as_lines [] = []
as_lines (p ∷ ps) = cond (is_none ps && eqb (length p) 0) [] ((p, not (is_none ps)) ∷ as_lines ps)

-- the pieces after the first byte 10
abbrev pieces-after : Option (List ℕ) → List (List ℕ)
pieces-after None = []
pieces-after (Some t) = pieces t

-- the first piece, and those that follow
pieces_step : (t : List ℕ) → pieces t ≡ before 10 t ∷ pieces-after (after 10 t)
unfolding before after split
pieces_step [] = refl
pieces_step (c ∷ cs) =
    elim (eqb c 10) as (λ v. cond v ([] ∷ pieces cs) (onto c (pieces cs)) ≡ cond v [] (c ∷ before 10 cs) ∷ pieces-after (cond v (Some cs) (after 10 cs))) [
      | true ↦ refl
      | false ↦ ap (onto c) (pieces_step cs)
    ]

some_piece : (t : List ℕ) → is_none (pieces t) ≡ false
some_piece t = ap is_none (pieces_step t)

-- with no byte 10, all stands before it
all_before : (t : List ℕ) → after 10 t ≡ None → before 10 t ≡ t
unfolding after before
all_before [] e = refl
all_before (c ∷ cs) e =
    ⊎_elim
    (λ (h : eqb c 10 ≡ true). let is : Some cs ≡ None = sym (cond-true _ _ _ h) ∙ e in cc)
    (λ (h : eqb c 10 ≡ false). cond-false _ _ _ h ∙ ap (λ x. c ∷ x) (all_before cs (sym (cond-false _ _ _ h) ∙ e)))
    (cases_Bool (eqb c 10))

told_rest : (t : List ℕ) (o : Option (List ℕ)) → after 10 t ≡ o → (length t ≡ 0 → ⊥) → ((u : List ℕ) → length u < length t → told_lines u ≡ as_lines (pieces u)) → (before 10 t, is_some o) ∷ told_lines (unwrap_or o []) ≡ as_lines (before 10 t ∷ pieces-after o)
unfolding split
told_rest t None e some more = sym (cond-false _ _ _ (ne_eqb (length (before 10 t)) 0 (λ z. some (sym (ap length (all_before t e)) ∙ z))))
told_rest t (Some u) e some more =
    (λ i. (before 10 t, true) ∷ more u (after_shorter t u e) i)
    ∙ sym (ap (λ b. cond (b && eqb (length (before 10 t)) 0) [] ((before 10 t, not b) ∷ as_lines (pieces u))) (some_piece u))

told_as : (n : ℕ) (t : List ℕ) → length t ≤ n → told_lines t ≡ as_lines (pieces t)
unfolding split
told_as n [] h = refl
told_as zero (c ∷ cs) h = absurd (omega arith)
told_as (suc n) (c ∷ cs) h =
    told_step c cs
    ∙ told_rest (c ∷ cs) (after 10 (c ∷ cs)) refl (λ z. omega arith) (λ u shorter. told_as n u (omega arith))
    ∙ sym (ap as_lines (pieces_step (c ∷ cs)))

-- what lines state that are told
abbrev pub read_told : ℕ → Figures → List (List ℕ × Bool) → Result Figures Place
read_told n f [] = Ok f
read_told n f (l ∷ ls) = on_line n (line_entry l.1 (last_dates f) l.0) (λ e. read_told (n + 1) (with_entry e f) ls)

same_on : (n : ℕ) (r : Result Entry ℕ) (more more' : Entry → Result Figures Place) → ((e : Entry) → more e ≡ more' e) → on_line n r more ≡ on_line n r more'
same_on n (Ok e) more more' h = h e
same_on n (Err k) more more' h = refl

read_pieces : (n : ℕ) (f : Figures) (ps : List (List ℕ)) → read_lines n f ps ≡ read_told n f (as_lines ps)
read_pieces n f [] = refl
read_pieces n f (p ∷ ps) =
    ⊎_elim
    (λ (h : (is_none ps && eqb (length p) 0) ≡ true). cond-true _ _ _ h ∙ sym (ap (read_told n f) (cond-true _ _ _ h)))
    (λ (h : (is_none ps && eqb (length p) 0) ≡ false).
    cond-false _ _ _ h
    ∙ same_on n (line_entry (not (is_none ps)) (last_dates f) p) _ _ (λ e. read_pieces (n + 1) (with_entry e f) ps)
    ∙ sym (ap (read_told n f) (cond-false _ _ _ h)))
    (cases_Bool (is_none ps && eqb (length p) 0))

-- they are the lines of the text
pub told_read : (t : List ℕ) (n : ℕ) (f : Figures) → read_told n f (told_lines t) ≡ read_lines n f (pieces t)
told_read t n f = ap (read_told n f) (told_as (length t) t (omega arith)) ∙ sym (read_pieces n f (pieces t))

-- no more than the text has bytes
ends-length : (last : Bool) (ls : List (List ℕ)) → length (with_ends last ls) ≡ length ls
ends-length last [] = refl
ends-length last (l ∷ ls) = ap suc (ends-length last ls)

onto_le : (c : ℕ) (ls : List (List ℕ)) → length (onto c ls) ≤ suc (length ls)
onto_le c [] = omega arith
onto_le c (l ∷ ls) = omega arith

lines_le : (t : List ℕ) → length (lines t) ≤ length t
unfolding split
lines_le [] = omega arith
lines_le (c ∷ cs) =
    ⊎_elim
    (λ (h : eqb c 10 ≡ true). omega (arith, ap length (cond-true (eqb c 10) ([] ∷ lines cs) (onto c (lines cs)) h), lines_le cs))
    (λ (h : eqb c 10 ≡ false). omega (arith, ap length (cond-false (eqb c 10) ([] ∷ lines cs) (onto c (lines cs)) h), lines_le cs, onto_le c (lines cs)))
    (cases_Bool (eqb c 10))

pub told_le : (t : List ℕ) → length (told_lines t) ≤ length t
told_le t = omega (arith, ends-length (ends_line 10 t) (lines t), lines_le t)
