-- A text cut at a byte: the parts by place, and the pieces one by one. Assumes nothing.
use Rattle.std.proofs.Common.{◌≡◌, ℕ, zero, suc, ◌+◌, ◌-◌, ◌<◌, ◌≤◌, Bool, true, false, cond, not, ◌||◌, eqb, List, [], ◌∷◌, length, get_or, take, drop, position, is_some, Some, None, Option, unwrap_or, sym, refl, ap, ◌∙◌, ⊎_elim, suc-le-suc, add-one, arith, Bor}
use Rattle.std.specs.Option.{option_map, option_map_or}
use Rattle.std.specs.List.{position_or_len}
use Rattle.std.proofs.lemmas.List.{nil_from_length, take_rest}
use Rattle.std.proofs.lemmas.List.Quantifiers.{position-Some}
use Rattle.std.proofs.lemmas.List.Sums.{prefix_len_passes}
use Rattle.std.proofs.lemmas.Bool.{cases_lt, lt-ltb, cond-true, cond-false, both_ways, cases_Bool, eq-eqb, eqb-true, ne_eqb}
use Rattle.text.specs.Taken.{after_line, is_none, told_lines, with_ends}
use Rattle.text.specs.Pieces.{after, before, ends_line, fields, lines, onto, pending, split}

-- the byte is at none of the first i places
abbrev pub Clear : ℕ → List ℕ → ℕ → Type 0
Clear b t i = (k : ℕ) → k < i → get_or t k 0 ≡ b → ⊥

clear_rest : (b c : ℕ) (cs : List ℕ) (i : ℕ) → Clear b (c ∷ cs) (suc i) → Clear b cs i
clear_rest b c cs i h = λ k l e. h (suc k) (suc-le-suc l) e

-- at the first place of the byte
pub before_at : (b : ℕ) (t : List ℕ) (i : ℕ) → Clear b t i → i < length t → get_or t i 0 ≡ b → before b t ≡ take i t
unfolding before
before_at b [] i no' h e = absurd (omega arith)
before_at b (c ∷ cs) zero no' h e = cond-true _ _ _ (eq-eqb c b e)
before_at b (c ∷ cs) (suc i) no' h e =
    cond-false _ _ _ (ne_eqb c b (no' 0 (omega arith))) ∙ ap (λ x. c ∷ x) (before_at b cs i (clear_rest b c cs i no') (omega arith) e)

pub after-at : (b : ℕ) (t : List ℕ) (i : ℕ) → Clear b t i → i < length t → get_or t i 0 ≡ b → after b t ≡ Some (drop (suc i) t)
unfolding after
after-at b [] i no' h e = absurd (omega arith)
after-at b (c ∷ cs) zero no' h e = cond-true _ _ _ (eq-eqb c b e)
after-at b (c ∷ cs) (suc i) no' h e =
    cond-false _ _ _ (ne_eqb c b (no' 0 (omega arith))) ∙ after-at b cs i (clear_rest b c cs i no') (omega arith) e

-- where the text has not the byte
pub before_all : (b : ℕ) (t : List ℕ) → Clear b t (length t) → before b t ≡ t
unfolding before
before_all b [] no' = refl
before_all b (c ∷ cs) no' =
    cond-false _ _ _ (ne_eqb c b (no' 0 (omega arith))) ∙ ap (λ x. c ∷ x) (before_all b cs (clear_rest b c cs (length cs) no'))

pub after_none : (b : ℕ) (t : List ℕ) → Clear b t (length t) → after b t ≡ None
unfolding after
after_none b [] no' = refl
after_none b (c ∷ cs) no' =
    cond-false _ _ _ (ne_eqb c b (no' 0 (omega arith))) ∙ after_none b cs (clear_rest b c cs (length cs) no')

-- where the byte was found, or nowhere
place_past : (p : ℕ → Bool) (t : List ℕ) → position p t ≡ None → length t ≤ position_or_len p t
place_past p t e =
    ⊎_elim
    (λ (h : position_or_len p t < length t). let is : Some (position_or_len p t) ≡ None = sym (cond-true _ _ _ (lt-ltb (position_or_len p t) (length t) h)) ∙ e in cc)
    (λ h. h)
    (cases_lt (position_or_len p t) (length t))

clear_all : (b : ℕ) (t : List ℕ) → position (λ c. eqb c b) t ≡ None → Clear b t (length t)
clear_all b t e = λ k h is.
    let passes = prefix_len_passes (λ c. not (eqb c b)) t k 0 (omega (arith, place_past (λ c. eqb c b) t e)) in
    both_ways (not (eqb (get_or t k 0) b)) (ap not (eq-eqb (get_or t k 0) b is)) passes

clear_to : (b : ℕ) (t : List ℕ) (i : ℕ) → position (λ c. eqb c b) t ≡ Some i → (i < length t) × (get_or t i 0 ≡ b) × Clear b t i
clear_to b t i e =
    let p = position-Some (λ c. eqb c b) t i 0 e in
    (p.0, eqb-true (get_or t i 0) b p.1, λ k h same. both_ways (eqb (get_or t k 0) b) (p.2 k h) (eq-eqb (get_or t k 0) b same))

-- what stands before the byte, and behind it, as the code reads it at the place
front_at : (b : ℕ) (t : List ℕ) (o : Option ℕ) → position (λ c. eqb c b) t ≡ o → before b t ≡ option_map_or (λ i. take i t) o t
front_at b t None e = before_all b t (clear_all b t e)
front_at b t (Some i) e = let p = clear_to b t i e in before_at b t i p.2 p.0 p.1

rest_at : (b : ℕ) (t : List ℕ) (o : Option ℕ) → position (λ c. eqb c b) t ≡ o → after b t ≡ option_map (λ i. take (length t - (i + 1)) (drop (i + 1) t)) o
rest_at b t None e = after_none b t (clear_all b t e)
rest_at b t (Some i) e =
    let p = clear_to b t i e in
    after-at b t i p.2 p.0 p.1 ∙ ap Some (ap (λ n. drop n t) (sym (add-one i)) ∙ sym (take_rest t (i + 1)))

pub before_is : (b : ℕ) (t : List ℕ) → before b t ≡ option_map_or (λ i. take i t) (position (λ c. eqb c b) t) t
before_is b t = front_at b t (position (λ c. eqb c b) t) refl

pub after_is : (b : ℕ) (t : List ℕ) → after b t ≡ option_map (λ i. take (length t - (i + 1)) (drop (i + 1) t)) (position (λ c. eqb c b) t)
after_is b t = rest_at b t (position (λ c. eqb c b) t) refl

-- the first field, and those that follow
pub fields_step : (t : List ℕ) → fields t ≡ before 44 t ∷ pending (after 44 t)
unfolding before after split
fields_step [] = refl
fields_step (c ∷ cs) =
    elim (eqb c 44) as (λ v. cond v ([] ∷ fields cs) (onto c (fields cs)) ≡ cond v [] (c ∷ before 44 cs) ∷ pending (cond v (Some cs) (after 44 cs))) [
      | true ↦ refl
      | false ↦ ap (onto c) (fields_step cs)
    ]

pub none_left : (o : Option (Bor (List ℕ))) → is_none (pending (option_map (λ x. x.now) o)) ≡ not (is_some o)
none_left None = refl
none_left (Some x) = ap is_none (fields_step x.now)

-- the lines after one, given what follows its end
abbrev pub lines_after : Option (List ℕ) → List (List ℕ)
lines_after None = []
lines_after (Some t) = lines t

-- the first line, and those that follow
abbrev FirstLine : ℕ → List ℕ → Bool → Type 0
FirstLine c cs v = cond v ([] ∷ lines cs) (onto c (lines cs)) ≡ cond v [] (c ∷ before 10 cs) ∷ lines_after (cond v (Some cs) (after 10 cs))

pub lines_step : (c : ℕ) (cs : List ℕ) → lines (c ∷ cs) ≡ before 10 (c ∷ cs) ∷ lines_after (after 10 (c ∷ cs))
unfolding before after split
lines_step c [] = elim (eqb c 10) as (FirstLine c []) [ true ↦ refl | false ↦ refl ]
lines_step c (d ∷ ds) = elim (eqb c 10) as (FirstLine c (d ∷ ds)) [ true ↦ refl | false ↦ ap (onto c) (lines_step d ds) ]

-- how a text ends, read behind its first end
ends_behind : (d : ℕ) (t u : List ℕ) → after 10 t ≡ Some u → ends_line d t ≡ ends_line 10 u
unfolding after
ends_behind d [] u e = cc
ends_behind d (c ∷ cs) u e =
    ⊎_elim
    (λ (h : eqb c 10 ≡ true). let is : Some cs ≡ Some u = sym (cond-true _ _ _ h) ∙ e in let same : cs ≡ u = cc in ap (λ x. ends_line x cs) (eqb-true c 10 h) ∙ ap (ends_line 10) same)
    (λ (h : eqb c 10 ≡ false). ends_behind c cs u (sym (cond-false _ _ _ h) ∙ e))
    (cases_Bool (eqb c 10))

-- and where it has none
ends_without : (c : ℕ) (cs : List ℕ) → after 10 (c ∷ cs) ≡ None → ends_line c cs ≡ false
unfolding after
ends_without c [] e =
    ⊎_elim (λ (h : eqb c 10 ≡ true). let is : Some [] ≡ None = sym (cond-true _ _ _ h) ∙ e in cc) (λ (h : eqb c 10 ≡ false). h) (cases_Bool (eqb c 10))
ends_without c (d ∷ ds) e =
    ⊎_elim
    (λ (h : eqb c 10 ≡ true). let is : Some (d ∷ ds) ≡ None = sym (cond-true _ _ _ h) ∙ e in cc)
    (λ (h : eqb c 10 ≡ false). ends_without d ds (sym (cond-false _ _ _ h) ∙ e))
    (cases_Bool (eqb c 10))

told_rest : (c : ℕ) (cs : List ℕ) (o : Option (List ℕ)) → after 10 (c ∷ cs) ≡ o → with_ends (ends_line c cs) (before 10 (c ∷ cs) ∷ lines_after o) ≡ (before 10 (c ∷ cs), is_some o) ∷ told_lines (unwrap_or o [])
unfolding split
told_rest c cs None e = ap (λ v. (before 10 (c ∷ cs), v) ∷ []) (ends_without c cs e)
told_rest c cs (Some []) e = ap (λ v. (before 10 (c ∷ cs), v) ∷ []) (ends_behind 10 (c ∷ cs) [] e)
told_rest c cs (Some (d ∷ ds)) e =
    λ i. (before 10 (c ∷ cs), not (is_none (lines_step d ds i)) || ends_line c cs) ∷ with_ends (ends_behind 10 (c ∷ cs) (d ∷ ds) e i) (lines (d ∷ ds))

-- the first line that is told, and those that follow
pub told_step : (c : ℕ) (cs : List ℕ) → told_lines (c ∷ cs) ≡ (before 10 (c ∷ cs), is_some (after 10 (c ∷ cs))) ∷ told_lines (after_line (c ∷ cs))
told_step c cs = ap (with_ends (ends_line c cs)) (lines_step c cs) ∙ told_rest c cs (after 10 (c ∷ cs)) refl

pub no_line : (t : List ℕ) → length t ≡ 0 → told_lines t ≡ []
unfolding split
no_line t e = ap told_lines (nil_from_length t e)

-- what follows a cut, `&[]` where nothing does
rest_read : (rest : Option (Bor (List ℕ))) (end : Bor (List ℕ)) (o : Option (List ℕ)) → option_map (λ x. x.now) rest ≡ o → end.now ≡ [] → ((unwrap_or rest end).now ≡ unwrap_or o []) × (is_some rest ≡ is_some o)
rest_read None end o e none = (none ∙ ap (λ x. unwrap_or x []) e, ap is_some e)
rest_read (Some x) end o e none = (ap (λ y. unwrap_or y []) e, ap is_some e)

-- a line is taken off those that are left
pub take-line : (t front : List ℕ) (rest : Option (Bor (List ℕ))) (on end : Bor (List ℕ)) (ended : Bool) → (length t ≡ 0 → ⊥) → front ≡ before 10 t → option_map (λ x. x.now) rest ≡ after 10 t → on ≡ unwrap_or rest end → end.now ≡ [] → ended ≡ is_some rest → (told_lines t ≡ (front, ended) ∷ told_lines on.now) × (ended ≡ is_some (after 10 t)) × (on.now ≡ after_line t)
take-line [] front rest on end ended some e f is none has = absurd (some refl)
take-line (c ∷ cs) front rest on end ended some e f is none has =
    let r = rest_read rest end (after 10 (c ∷ cs)) f none in
    let at : on.now ≡ after_line (c ∷ cs) = ap (λ x. x.now) is ∙ r.0 in
    let v : ended ≡ is_some (after 10 (c ∷ cs)) = has ∙ r.1 in
    (told_step c cs ∙ (λ i. (sym e i, sym v i) ∷ told_lines (sym at i)), v, at)

-- nothing follows nothing
pub empty_after_line : (t : List ℕ) → length t ≡ 0 → t ≡ after_line t
unfolding after
empty_after_line [] h = refl
empty_after_line (c ∷ cs) h = absurd (omega arith)

-- what follows a byte 10 is shorter
pub after_shorter : (t u : List ℕ) → after 10 t ≡ Some u → length u < length t
unfolding after
after_shorter [] u e = cc
after_shorter (c ∷ cs) u e =
    ⊎_elim
    (λ (h : eqb c 10 ≡ true). let is : Some cs ≡ Some u = sym (cond-true _ _ _ h) ∙ e in let same : cs ≡ u = cc in omega (arith, ap length same))
    (λ (h : eqb c 10 ≡ false). omega (arith, after_shorter cs u (sym (cond-false _ _ _ h) ∙ e)))
    (cases_Bool (eqb c 10))

-- what follows the first line is shorter
shortens : (t : List ℕ) (o : Option (List ℕ)) → after 10 t ≡ o → (length t ≡ 0 → ⊥) → length (unwrap_or o []) < length t
shortens t None e some = omega (arith, some)
shortens t (Some u) e some = after_shorter t u e

pub line_shortens : (t : List ℕ) → (length t ≡ 0 → ⊥) → length (after_line t) < length t
line_shortens t some = shortens t (after 10 t) refl some
