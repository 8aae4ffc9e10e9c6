-- What is still owed of the answers to a log, as it is taken line by line.
use Rattle.std.proofs.Common.{◌≡◌, ℕ, zero, suc, ◌+◌, ◌-◌, ◌<◌, ◌≤◌, cond, eqb, min, ◌^◌, true, false, Bool, List, [], ◌++◌, length, Some, None, Option, unwrap_or, sym, refl, ap, subst, ◌∙◌, append_assoc, arith}
use Rattle.std.specs.Prelude.{Result, IfOk}
use Rattle.std.specs.Io.KnownBytes.{Appends}
use Rattle.std.proofs.lemmas.List.{append-nil, length-drop}
use Rattle.std.proofs.lemmas.Bool.{cond-true, cond-false, eq-eqb, eqb-true, eqb-false, ne_eqb}
use Rattle.text.specs.Pieces.{after}
use Rattle.text.specs.Taken.{after_line, text_left}
use Rattle.text.proofs.Cutting.{after_shorter}
use Rattle.commands.specs.declared.command.Beginning.{Beginning}
use Rattle.commands.specs.declared.command.Command.TheVariants.{Notice}
use Rattle.commands.specs.declared.vocabulary.Vocabulary.{Vocabulary}
use Rattle.logs.specs.Logs.{entry_at, first_lines}
use Rattle.logs.specs.declared.log.Log.{Log}
use Rattle.logs.specs.declared.log.Entry.{Entry}
use Rattle.logs.specs.declared.log.Entry.TheVariants.{PassedOver, Unreadable, Read}
use Rattle.office.specs.Desk.{Desk}
use Rattle.replay.specs.Replaying.{Leaves, Owes, Place, all_answers, answers, begun, by_entry, desk_after, line_taken, next_answered, place}

-- nothing is written yet
pub owes_all : (was : Option (List ℕ)) (all : List ℕ) → Owes was was all all
owes_all None all = tt
owes_all (Some xs) all = refl

-- what is still to be written, said otherwise
pub owes_as : (was now : Option (List ℕ)) (rest other all : List ℕ) → rest ≡ other → Owes was now rest all → Owes was now other all
owes_as was now rest other all e h = subst (λ (r : List ℕ). Owes was now r all) e h

-- the front of it is written
pub owes_written : (was now new : Option (List ℕ)) (out rest all : List ℕ) → Owes was now (out ++ rest) all → Appends now new out → Owes was new rest all
owes_written None now new out rest all h w = tt
owes_written (Some xs) None new out rest all h w = absurd h
owes_written (Some xs) (Some ys) None out rest all h w = absurd w
owes_written (Some xs) (Some ys) (Some zs) out rest all h w = ap (λ (u : List ℕ). u ++ rest) w ∙ append_assoc ys out rest ∙ h

-- what has gathered is written, and nothing is left of it
pub owes_flushed : (was now : Option (List ℕ)) (left out : List ℕ) → left ≡ [] → Appends was now out → Owes was now left out
owes_flushed None now left out e w = tt
owes_flushed (Some xs) None left out e w = absurd w
owes_flushed (Some xs) (Some ys) left out e w = ap (λ (l : List ℕ). ys ++ l) e ∙ append-nil ys ∙ w

-- a part of what has gathered is written
pub owes_less : (was mid now : Option (List ℕ)) (left out rest all : List ℕ) → Owes was mid (out ++ rest) all → Owes mid now left out → Owes was now (left ++ rest) all
owes_less None mid now left out rest all h k = tt
owes_less (Some xs) None now left out rest all h k = absurd h
owes_less (Some xs) (Some ys) None left out rest all h k = k
owes_less (Some xs) (Some ys) (Some zs) left out rest all h k =
    sym (append_assoc zs left rest) ∙ ap (λ (u : List ℕ). u ++ rest) k ∙ append_assoc ys out rest ∙ h

-- all of it is written
pub owes_none : (was now : Option (List ℕ)) (all : List ℕ) → Owes was now [] all → Appends was now all
owes_none None now all h = tt
owes_none (Some xs) None all h = h
owes_none (Some xs) (Some ys) all h = sym (append-nil ys) ∙ h

-- what is owed of the rest is owed of all
pub owes_on : (was mid now : Option (List ℕ)) (rest more all : List ℕ) → Owes was mid more all → Owes mid now rest more → Owes was now rest all
owes_on None mid now rest more all h k = tt
owes_on (Some xs) None now rest more all h k = absurd h
owes_on (Some xs) (Some ys) None rest more all h k = k
owes_on (Some xs) (Some ys) (Some zs) rest more all h k = k ∙ h

-- all that was to be written, said otherwise
pub owed_of : {N E : Type 0} (r : Result N E) (was now : Option (List ℕ)) (rest : N → List ℕ) (one all : List ℕ) → one ≡ all → IfOk r (λ n. Owes was now (rest n) one) → IfOk r (λ n. Owes was now (rest n) all)
owed_of r was now rest one all e h = subst (λ (a : List ℕ). IfOk r (λ n. Owes was now (rest n) a)) e h

-- a line that is taken leaves less
less_by : (t : List ℕ) (o : Option (List ℕ)) → after 10 t ≡ o → length (unwrap_or o []) ≤ length t - 1
less_by t None e = omega arith
less_by t (Some u) e = let h = after_shorter t u e in omega arith

pub line_less : (t : List ℕ) → length (after_line t) ≤ length t - 1
line_less t = less_by t (after 10 t) refl

-- an answer leaves no more than there was
pub answer_less : (ids : ℕ) (e : Entry) (p : Place) → length (by_entry ids e p).1.left ≤ length p.left
answer_less ids PassedOver p = omega arith
answer_less ids Unreadable p = omega arith
answer_less ids (Read (Notice n)) p = omega (arith, length-drop (length (first_lines n p.left)) p.left)
answer_less ids (Read c) p = omega arith

pub step_less : (ids : ℕ) (v : Vocabulary) (p : Place) → length (next_answered ids v p).1.left ≤ length p.left - 1
step_less ids v p = omega (arith, answer_less ids (entry_at v p.left) (line_taken p), line_less p.left)

pub leaves_less : (ids : ℕ) (e : Entry) (p r : Place) (was now : List ℕ) → Leaves (by_entry ids e p) was now r → length r.left ≤ length p.left
leaves_less ids e p r was now leaves = omega (arith, answer_less ids e p, ap (λ (x : Place). length x.left) leaves.1)

-- as many lines as bytes are enough
pub enough : (ids : ℕ) (v : Vocabulary) (k j : ℕ) (p : Place) → length p.left ≤ k → length p.left ≤ j → answers ids v k p ≡ answers ids v j p
unfolding answers
enough ids v zero zero p hk hj = refl
enough ids v zero (suc j) p hk hj = sym (cond-true _ _ _ (eq-eqb (length p.left) 0 (omega arith)))
enough ids v (suc k) zero p hk hj = cond-true _ _ _ (eq-eqb (length p.left) 0 (omega arith))
enough ids v (suc k) (suc j) p hk hj =
    let less = step_less ids v p in
    ap (λ (rest : List ℕ). cond (eqb (length p.left) 0) [] ((next_answered ids v p).0 ++ rest)) (enough ids v k j (next_answered ids v p).1 (omega arith) (omega arith))

-- the answers to what is left: that to the next line, and the others
pub next_first : (ids : ℕ) (v : Vocabulary) (p : Place) → 0 < length p.left → all_answers ids v p ≡ (next_answered ids v p).0 ++ all_answers ids v (next_answered ids v p).1
unfolding answers
next_first ids v p h =
    let less = step_less ids v p in
    enough ids v (length p.left) (suc (length p.left)) p (omega arith) (omega arith)
    ∙ cond-false _ _ _ (ne_eqb (length p.left) 0 (λ e. omega arith))
    ∙ ap (λ (rest : List ℕ). (next_answered ids v p).0 ++ rest) (enough ids v (length p.left) (length (next_answered ids v p).1.left) (next_answered ids v p).1 (omega arith) (omega arith))

-- where nothing is left there is no answer
pub none_left : (ids : ℕ) (v : Vocabulary) (p : Place) → length p.left ≡ 0 → all_answers ids v p ≡ []
unfolding answers
none_left ids v p h = enough ids v (length p.left) 0 p (omega arith) (omega arith)

-- a line is taken and answered, and the answer gathers behind the others
pub line_answered : (ids : ℕ) (v : Vocabulary) (p q r : Place) (e : Entry) (was now : Option (List ℕ)) (out more all : List ℕ) → 0 < length p.left → q ≡ line_taken p → e ≡ entry_at v p.left → Leaves (by_entry ids e q) out more r → Owes was now (out ++ all_answers ids v p) all → Owes was now (more ++ all_answers ids v r) all
line_answered ids v p q r e was now out more all h taken read leaves owed =
    let is : by_entry ids e q ≡ next_answered ids v p = ap (λ (x : Entry). by_entry ids x q) read ∙ ap (λ (x : Place). by_entry ids (entry_at v p.left) x) taken in
    let text : more ≡ out ++ (next_answered ids v p).0 = leaves.0 ∙ ap (λ (a : List ℕ × Place). out ++ a.0) is in
    let on : r ≡ (next_answered ids v p).1 = leaves.1 ∙ ap (λ (a : List ℕ × Place). a.1) is in
    owes_as was now (out ++ all_answers ids v p) (more ++ all_answers ids v r) all
    (ap (λ (a : List ℕ). out ++ a) (next_first ids v p h)
    ∙ sym (append_assoc out (next_answered ids v p).0 (all_answers ids v (next_answered ids v p).1))
    ∙ ap (λ (a : List ℕ). a ++ all_answers ids v (next_answered ids v p).1) (sym text)
    ∙ ap (λ (x : Place). more ++ all_answers ids v x) (sym on))
    owed

-- a line is there where the log gives one
some_left : (b : Bool) (e x : Entry) → Some e ≡ cond b None (Some x) → (b ≡ false) × (e ≡ x)
some_left true e x h = let z : ◌≡◌ {A = ℕ} 0 1 = cc in absurd (omega arith)
some_left false e x h = let same : e ≡ x = cc in (refl, same)

no_more : (b : Bool) (x : Entry) → None ≡ cond b None (Some x) → b ≡ true
no_more true x h = refl
no_more false x h = let z : ◌≡◌ {A = ℕ} 0 1 = cc in absurd (omega arith)

-- the same, of a log that gives the line
pub entry_answered : (ids : ℕ) (log mid end : Log) (d more-d : Desk) (e : Entry) (was now : Option (List ℕ)) (out more all : List ℕ) → Some e ≡ cond (eqb (length (text_left log.lines)) 0) None (Some (entry_at log.vocabulary (text_left log.lines))) → text_left mid.lines ≡ after_line (text_left log.lines) → mid.line ≡ cond (eqb (length (text_left log.lines)) 0) log.line (min (log.line + 1) (2 ^ 64 - 1)) → mid.vocabulary ≡ log.vocabulary → end.vocabulary ≡ mid.vocabulary → Leaves (by_entry ids e (place mid d)) out more (place end more-d) → Owes was now (out ++ all_answers ids log.vocabulary (place log d)) all → Owes was now (more ++ all_answers ids end.vocabulary (place end more-d)) all
entry_answered ids log mid end d more-d e was now out more all gives rest line same on leaves owed =
    let p = place log d in
    let there = some_left (eqb (length p.left) 0) e (entry_at log.vocabulary p.left) gives in
    let some : length p.left ≡ 0 → ⊥ = eqb-false (length p.left) 0 there.0 in
    let counts : mid.line ≡ min (log.line + 1) (2 ^ 64 - 1) = line ∙ cond-false _ _ _ there.0 in
    let taken : place mid d ≡ line_taken p = ap (λ (t : List ℕ). record { left = t; line = mid.line; desk = d }) rest ∙ ap (λ (n : ℕ). record { left = after_line p.left; line = n; desk = d }) counts in
    subst (λ (v : Vocabulary). Owes was now (more ++ all_answers ids v (place end more-d)) all) (sym (on ∙ same))
    (line_answered ids log.vocabulary p (place mid d) (place end more-d) e was now out more all (omega arith) taken there.1 leaves owed)

-- and no setup follows
pub entry_passed : (ids : ℕ) (log mid end : Log) (d more-d : Desk) (e : Entry) (next : Option Beginning) (was now : Option (List ℕ)) (out more all : List ℕ) → next ≡ None → Some e ≡ cond (eqb (length (text_left log.lines)) 0) None (Some (entry_at log.vocabulary (text_left log.lines))) → text_left mid.lines ≡ after_line (text_left log.lines) → mid.line ≡ cond (eqb (length (text_left log.lines)) 0) log.line (min (log.line + 1) (2 ^ 64 - 1)) → mid.vocabulary ≡ log.vocabulary → end.vocabulary ≡ mid.vocabulary → Leaves (by_entry ids e (place mid d)) out more (place end (desk_after ids next more-d)) → Owes was now (out ++ all_answers ids log.vocabulary (place log d)) all → Owes was now (more ++ all_answers ids end.vocabulary (place end more-d)) all
entry_passed ids log mid end d more-d e next was now out more all none gives rest line same on leaves owed =
    subst (λ (o : Option Beginning). Owes was now (more ++ all_answers ids end.vocabulary (place end (desk_after ids o more-d))) all) none
    (entry_answered ids log mid end d (desk_after ids next more-d) e was now out more all gives rest line same on leaves owed)

-- or it is a setup
pub entry_set_up : (ids : ℕ) (log mid end : Log) (d more-d : Desk) (e : Entry) (next : Option Beginning) (b : Beginning) (was now : Option (List ℕ)) (out more all : List ℕ) → next ≡ Some b → Some e ≡ cond (eqb (length (text_left log.lines)) 0) None (Some (entry_at log.vocabulary (text_left log.lines))) → text_left mid.lines ≡ after_line (text_left log.lines) → mid.line ≡ cond (eqb (length (text_left log.lines)) 0) log.line (min (log.line + 1) (2 ^ 64 - 1)) → mid.vocabulary ≡ log.vocabulary → end.vocabulary ≡ mid.vocabulary → Leaves (by_entry ids e (place mid d)) out more (place end (desk_after ids next more-d)) → Owes was now (out ++ all_answers ids log.vocabulary (place log d)) all → Owes was now (more ++ all_answers ids end.vocabulary (place end (begun ids b))) all
entry_set_up ids log mid end d more-d e next b was now out more all some gives rest line same on leaves owed =
    subst (λ (o : Option Beginning). Owes was now (more ++ all_answers ids end.vocabulary (place end (desk_after ids o more-d))) all) some
    (entry_answered ids log mid end d (desk_after ids next more-d) e was now out more all gives rest line same on leaves owed)

-- nothing is left where the log gives no line
pub nothing_left : (ids : ℕ) (log : Log) (d : Desk) (was now : Option (List ℕ)) (out all : List ℕ) → None ≡ cond (eqb (length (text_left log.lines)) 0) None (Some (entry_at log.vocabulary (text_left log.lines))) → Owes was now (out ++ all_answers ids log.vocabulary (place log d)) all → Owes was now (out ++ []) all
nothing_left ids log d was now out all gives owed =
    owes_as was now (out ++ all_answers ids log.vocabulary (place log d)) (out ++ []) all (ap (λ (a : List ℕ). out ++ a) (none_left ids log.vocabulary (place log d) (eqb-true (length (text_left log.lines)) 0 (no_more (eqb (length (text_left log.lines)) 0) (entry_at log.vocabulary (text_left log.lines)) gives)))) owed
