-- Whole texts: what they state, and where they are faulty.
use Rattle.std.proofs.Common.{◌≡◌, ℕ, ◌+◌, Bool, true, false, cond, not, ◌&&◌, eqb, ltb, ◌⊎◌, List, [], ◌∷◌, ◌++◌, map, length, Ok, Err, Result, sym, refl, ap, ◌∙◌, subst, inl, inr, ⊎_elim, append_assoc, arith}
use Rattle.std.proofs.lemmas.List.{nil_from_length}
use Rattle.std.proofs.lemmas.Bool.{cases_Bool, cond-true, cond-false, eqb-true, le-ltb, ltb-true, ltb-false}
use Rattle.text.specs.Pieces.{led, split}
use Rattle.text.specs.Taken.{is_none}
use Rattle.notice_text.specs.declared.entry.Entry.{Entry}
use Rattle.notice_text.specs.Lines.{line_entry}
use Rattle.notice_text.proofs.Inverting.{line_follows}
use Rattle.notice.specs.declared.tables.Place.{Place}
use Rattle.sources.specs.Board.{Figures, nothing}
use Rattle.notice.specs.Notices.{last_dates, on_line, pieces, read_lines, read_notice, with_entry}
use Rattle.notice_laws.specs.Stating.{entry_line, told, written, Lawful, LawfulEntry, States}
use Rattle.notice_laws.specs.Laws.{FaultyAt, TooLong}
use Rattle.notice_laws.proofs.Splitting.{some_left, some_piece, split_at, split-whole, with_byte}
use Rattle.notice_laws.proofs.Stated.{line-stated}
use Rattle.notice_laws.proofs.Wording.{line_again, line_lacks}

-- what was refused was not read, and the other way round
wrong : {X : Type 0} {f : Figures} {p : Place} → ◌≡◌ {A = Result Figures Place} (Ok f) (Err p) → X
wrong e = let z : ◌≡◌ {A = ℕ} 0 1 = cc in absurd (omega arith)

wrong' : {X : Type 0} {f : Figures} {p : Place} → ◌≡◌ {A = Result Figures Place} (Err p) (Ok f) → X
wrong' e = let z : ◌≡◌ {A = ℕ} 0 1 = cc in absurd (omega arith)

-- a line that other pieces follow
followed : (n : ℕ) (f : Figures) (line : List ℕ) (ps : List (List ℕ)) → is_none ps ≡ false → read_lines n f (line ∷ ps) ≡ on_line n (line_entry true (last_dates f) line) (λ e. read_lines (n + 1) (with_entry e f) ps)
followed n f line ps some =
    ap (λ b. cond (b && eqb (length line) 0) (Ok f) (on_line n (line_entry (not b) (last_dates f) line) (λ e. read_lines (n + 1) (with_entry e f) ps))) some

pieces-written : (e : Entry) (r : List ℕ) → LawfulEntry e → pieces ((entry_line e ++ 10 ∷ []) ++ r) ≡ entry_line e ∷ pieces r
pieces-written e r h = ap pieces (append_assoc (entry_line e) (10 ∷ []) r) ∙ split_at 10 ([] ∷ []) (entry_line e) r (line_lacks e h)

-- lines that state entries are read as those
read_written : (n : ℕ) (f : Figures) (es : List Entry) → Lawful f es → read_lines n f (pieces (written es)) ≡ Ok (told f es)
unfolding split
read_written n f [] h = refl
read_written n f (e ∷ es) h =
    ap (read_lines n f) (pieces-written e (written es) h.0)
    ∙ followed n f (entry_line e) (pieces (written es)) (some_left (written es))
    ∙ ap (λ r. on_line n r (λ g. read_lines (n + 1) (with_entry g f) (pieces (written es)))) (line_again (last_dates f) e h.0 h.1)
    ∙ read_written (n + 1) (with_entry e f) es h.2

pub reads : (t : List ℕ) (es : List Entry) → States t es → read_notice t ≡ Ok (told nothing es)
unfolding read_notice
reads t es s =
    cond-false (ltb 65536 (length t)) _ _ (le-ltb 65536 (length t) s.short)
    ∙ ap (λ u. read_lines 1 nothing (pieces u)) s.text
    ∙ read_written 1 nothing es s.lawful

-- pieces that were read are the lines of entries, and nothing behind them
record Read (f : Figures) (ps : List (List ℕ)) (g : Figures) : Type 0 where
  entries : List Entry
  parts : ps ≡ map entry_line entries ++ ([] ∷ [])
  lawful : Lawful f entries
  sums : g ≡ told f entries

-- a line that was read, before others that were
read_on : (f g : Figures) (line : List ℕ) (ps : List (List ℕ)) (ended : Bool) (e : Entry) → line_entry ended (last_dates f) line ≡ Ok e → Read (with_entry e f) ps g → Read f (line ∷ ps) g
read_on f g line ps ended e h r =
    let l = line-stated ended (last_dates f) line e h in
    record {
      entries = e ∷ r.entries;
      parts = λ i. l.text i ∷ r.parts i;
      lawful = (l.lawful, line_follows ended (last_dates f) line e h, r.lawful);
      sums = r.sums;
    }

next_ok : (n : ℕ) (f g : Figures) (line : List ℕ) (q : List ℕ) (qs : List (List ℕ)) (r : Result Entry ℕ) → line_entry true (last_dates f) line ≡ r → ((e : Entry) → read_lines (n + 1) (with_entry e f) (q ∷ qs) ≡ Ok g → Read (with_entry e f) (q ∷ qs) g) → on_line n r (λ e. read_lines (n + 1) (with_entry e f) (q ∷ qs)) ≡ Ok g → Read f (line ∷ q ∷ qs) g
next_ok n f g line q qs (Ok e) is more h = read_on f g line (q ∷ qs) true e is (more e h)
next_ok n f g line q qs (Err k) is more h = wrong' h

-- a line that lacks its byte 10 is not read
last_ok : {X : Type 0} (n : ℕ) (f g : Figures) (line : List ℕ) (r : Result Entry ℕ) → line_entry false (last_dates f) line ≡ r → on_line n r (λ e. Ok (with_entry e f)) ≡ Ok g → X
last_ok n f g line (Ok e) is h = let b = (line-stated false (last_dates f) line e is).has_end in let z : ◌≡◌ {A = ℕ} 0 1 = ap (λ v. cond v 1 0) b in absurd (omega arith)
last_ok n f g line (Err k) is h = wrong' h

lines_read : (n : ℕ) (f g : Figures) (p : List ℕ) (ps : List (List ℕ)) → read_lines n f (p ∷ ps) ≡ Ok g → Read f (p ∷ ps) g
lines_read n f g p [] h =
    ⊎_elim
    (λ (e : eqb (length p) 0 ≡ true).
    let is : ◌≡◌ {A = Result Figures Place} (Ok f) (Ok g) = sym (cond-true _ _ _ e) ∙ h in
    let same : f ≡ g = cc in
    record { entries = []; parts = ap (λ x. x ∷ []) (nil_from_length p (eqb-true (length p) 0 e)); lawful = tt; sums = sym same })
    (λ (e : eqb (length p) 0 ≡ false). last_ok n f g p _ refl (sym (cond-false _ _ _ e) ∙ h))
    (cases_Bool (eqb (length p) 0))
lines_read n f g p (q ∷ qs) h = next_ok n f g p q qs _ refl (λ e k. lines_read (n + 1) (with_entry e f) g q qs k) h

-- the lines of entries, each with its byte 10
led_ends : (es : List Entry) → led 10 (map entry_line es ++ ([] ∷ [])) ≡ 10 ∷ with_byte 10 (map entry_line es ++ ([] ∷ []))
led_ends [] = refl
led_ends (e ∷ es) = refl

ends_written : (es : List Entry) → with_byte 10 (map entry_line es ++ ([] ∷ [])) ≡ written es
ends_written [] = refl
ends_written (e ∷ es) =
    ap (λ r. entry_line e ++ r) (led_ends es ∙ ap (λ r. 10 ∷ r) (ends_written es)) ∙ sym (append_assoc (entry_line e) (10 ∷ []) (written es))

all_read : (t : List ℕ) (f g : Figures) → read_lines 1 f (pieces t) ≡ Ok g → Read f (pieces t) g
all_read t f g h =
    let s = some_piece 10 t in
    subst (λ (ps : List (List ℕ)). Read f ps g) (sym s.is) (lines_read 1 f g s.first s.others (sym (ap (read_lines 1 f) s.is) ∙ h))

pub reads_only : (t : List ℕ) (f : Figures) → read_notice t ≡ Ok f → (es : List Entry) × States t es × (f ≡ told nothing es)
unfolding read_notice
reads_only t f h =
    ⊎_elim
    (λ (e : ltb 65536 (length t) ≡ true). wrong' (sym (cond-true _ _ _ e) ∙ h))
    (λ (e : ltb 65536 (length t) ≡ false).
    let r = all_read t nothing f (sym (cond-false _ _ _ e) ∙ h) in
    let text = sym (split-whole 10 t) ∙ ap (with_byte 10) r.parts ∙ ends_written r.entries in
    (r.entries, record { text = text; lawful = r.lawful; short = ltb-false 65536 (length t) e }, r.sums))
    (cases_Bool (ltb 65536 (length t)))

-- the faulty line comes after one that was read
fault_on : (f : Figures) (n : ℕ) (line : List ℕ) (ps : List (List ℕ)) (p : Place) (ended : Bool) (e : Entry) → line_entry ended (last_dates f) line ≡ Ok e → FaultyAt (with_entry e f) (n + 1) ps p → FaultyAt f n (line ∷ ps) p
fault_on f n line ps p ended e h r =
    let l = line-stated ended (last_dates f) line e h in
    let count = r.counted in
    record {
      before = e ∷ r.before;
      line = r.line;
      after = r.after;
      parts = λ i. l.text i ∷ r.parts i;
      lawful = (l.lawful, line_follows ended (last_dates f) line e h, r.lawful);
      counted = count ∙ omega arith;
      faulty = r.faulty;
    }

-- the line itself is faulty
fault_here : (f : Figures) (n k : ℕ) (line : List ℕ) (ps : List (List ℕ)) (p : Place) → line_entry (not (is_none ps)) (last_dates f) line ≡ Err k → ◌≡◌ {A = Result Figures Place} (Err (record { line = n; field = k })) (Err p) → FaultyAt f n (line ∷ ps) p
fault_here f n k line ps p h e =
    let same : record { line = n; field = k } ≡ p = cc in
    record {
      before = [];
      line = line;
      after = ps;
      parts = refl;
      lawful = tt;
      counted = sym (ap (λ q. q.line) same) ∙ omega arith;
      faulty = h ∙ ap (λ q. Err q.field) same;
    }

next-fault : (n : ℕ) (f : Figures) (line q : List ℕ) (qs : List (List ℕ)) (p : Place) (r : Result Entry ℕ) → line_entry true (last_dates f) line ≡ r → ((e : Entry) → read_lines (n + 1) (with_entry e f) (q ∷ qs) ≡ Err p → FaultyAt (with_entry e f) (n + 1) (q ∷ qs) p) → on_line n r (λ e. read_lines (n + 1) (with_entry e f) (q ∷ qs)) ≡ Err p → FaultyAt f n (line ∷ q ∷ qs) p
next-fault n f line q qs p (Ok e) is more h = fault_on f n line (q ∷ qs) p true e is (more e h)
next-fault n f line q qs p (Err k) is more h = fault_here f n k line (q ∷ qs) p is h

last-fault : (n : ℕ) (f : Figures) (line : List ℕ) (p : Place) (r : Result Entry ℕ) → line_entry false (last_dates f) line ≡ r → on_line n r (λ e. Ok (with_entry e f)) ≡ Err p → FaultyAt f n (line ∷ []) p
last-fault n f line p (Ok e) is h = wrong h
last-fault n f line p (Err k) is h = fault_here f n k line [] p is h

lines_refused : (n : ℕ) (f : Figures) (l : List ℕ) (ps : List (List ℕ)) (p : Place) → read_lines n f (l ∷ ps) ≡ Err p → FaultyAt f n (l ∷ ps) p
lines_refused n f l [] p h =
    ⊎_elim
    (λ (e : eqb (length l) 0 ≡ true). wrong (sym (cond-true _ _ _ e) ∙ h))
    (λ (e : eqb (length l) 0 ≡ false). last-fault n f l p _ refl (sym (cond-false _ _ _ e) ∙ h))
    (cases_Bool (eqb (length l) 0))
lines_refused n f l (q ∷ qs) p h = next-fault n f l q qs p _ refl (λ e k. lines_refused (n + 1) (with_entry e f) q qs p k) h

pub refuses : (t : List ℕ) (p : Place) → read_notice t ≡ Err p → TooLong t p ⊎ FaultyAt nothing 1 (pieces t) p
unfolding read_notice
refuses t p h =
    ⊎_elim
    (λ (e : ltb 65536 (length t) ≡ true).
    let is : ◌≡◌ {A = Result Figures Place} (Err (record { line = 0; field = 0 })) (Err p) = sym (cond-true _ _ _ e) ∙ h in
    let same : p ≡ record { line = 0; field = 0 } = cc in
    inl (ltb-true 65536 (length t) e, same))
    (λ (e : ltb 65536 (length t) ≡ false).
    let s = some_piece 10 t in
    let k = sym (ap (read_lines 1 nothing) s.is) ∙ (sym (cond-false _ _ _ e) ∙ h) in
    inr (subst (λ (ps : List (List ℕ)). FaultyAt nothing 1 ps p) (sym s.is) (lines_refused 1 nothing s.first s.others p k)))
    (cases_Bool (ltb 65536 (length t)))
