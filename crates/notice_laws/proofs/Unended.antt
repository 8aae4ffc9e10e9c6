-- The fault of a line that lacks its byte 10.
use Rattle.std.proofs.Common.{◌≡◌, ℕ, suc, ◌+◌, ◌-◌, ◌≤◌, min, Bool, true, false, cond, eqb, List, [], ◌∷◌, length, Some, None, Err, Option, Result, ap, ◌∙◌, arith}
use Rattle.std.specs.Option.{ok_or}
use Rattle.text.specs.Pieces.{fields}
use Rattle.notice_text.specs.declared.entry.Dates.{Dates}
use Rattle.notice_text.specs.declared.entry.Entry.{Entry}
use Rattle.notice_text.specs.declared.entry.Entry.TheVariants.{Quota, Price, Final}
use Rattle.notice_text.specs.Lines.{by_letter, close, day_after, field, final_line, letter, line_entry, month_after, price, price_line, quota, quota_line, then_read, year_after}
use Rattle.notice_laws.specs.Laws.{without_end}

-- fields that are left, the first of them field n: what they are read as with the byte 10 and without it
abbrev Fits : ℕ → List (List ℕ) → Result Entry ℕ → Result Entry ℕ → Type 0
Fits n fs whole cut = cut ≡ Err (without_end whole (n - 1 + length fs))

-- a written field that is faulty is so either way
same_fault : (n k : ℕ) → 1 ≤ n → n ≡ min n (n - 1 + suc k)
same_fault n k h = omega arith

close_fits : (n : ℕ) → 1 ≤ n → (fs : List (List ℕ)) (e : Entry) → Fits n fs (close true n fs e) (close false n fs e)
close_fits n h [] e = ap Err (omega arith)
close_fits n h (t ∷ ts) e = ap Err (same_fault n (length ts) h)

read_fits : {A : Type 0} (n : ℕ) → 1 ≤ n → (o : Option A) (ts : List (List ℕ)) (whole cut : A → List (List ℕ) → Result Entry ℕ) → ((a : A) → Fits (n + 1) ts (whole a ts) (cut a ts)) → then_read (ok_or o n) (λ a. cut a ts) ≡ Err (without_end (then_read (ok_or o n) (λ a. whole a ts)) (n - 1 + suc (length ts)))
read_fits n h None ts whole cut more = ap Err (same_fault n (length ts) h)
read_fits n h (Some a) ts whole cut more = more a ∙ ap (λ k. Err (without_end (whole a ts) k)) (omega arith)

field_fits : {A : Type 0} (n : ℕ) → 1 ≤ n → (read : List ℕ → Option A) (fs : List (List ℕ)) (whole cut : A → List (List ℕ) → Result Entry ℕ) → ((a : A) (ts : List (List ℕ)) → Fits (n + 1) ts (whole a ts) (cut a ts)) → Fits n fs (field true n read fs whole) (field false n read fs cut)
field_fits n h read [] whole cut more = ap Err (omega arith)
field_fits n h read (t ∷ ts) whole cut more = read_fits n h (read t) ts whole cut (λ a. more a ts)

quota_fits : (last : ℕ) (fs : List (List ℕ)) → Fits 2 fs (quota_line true last fs) (quota_line false last fs)
quota_fits last fs =
    field_fits 2 (omega arith) (day_after last) fs _ _ (λ d ts. field_fits 3 (omega arith) quota ts _ _ (λ q us. close_fits 4 (omega arith) us (Quota (record { from = d; quota = q }))))

price_fits : (last : ℕ) (fs : List (List ℕ)) → Fits 2 fs (price_line true last fs) (price_line false last fs)
price_fits last fs =
    field_fits 2 (omega arith) (month_after last) fs _ _ (λ m ts. field_fits 3 (omega arith) price ts _ _ (λ p us. close_fits 4 (omega arith) us (Price (record { month = m; price = p }))))

final_fits : (last : ℕ) (fs : List (List ℕ)) → Fits 2 fs (final_line true last fs) (final_line false last fs)
final_fits last fs =
    field_fits 2 (omega arith) (year_after last) fs _ _ (λ y ts. field_fits 3 (omega arith) quota ts _ _ (λ q us. field_fits 4 (omega arith) price us _ _ (λ p vs. close_fits 5 (omega arith) vs (Final (record { year = y; figures = record { quota = q; price = p } })))))

-- two ways of a test
cond_fits : (b : Bool) (n : ℕ) (fs : List (List ℕ)) (w c x d : Result Entry ℕ) → Fits n fs w c → Fits n fs x d → Fits n fs (cond b w x) (cond b c d)
cond_fits true n fs w c x d f g = f
cond_fits false n fs w c x d f g = g

letter_fits : (last : Dates) (c : ℕ) (fs : List (List ℕ)) → Fits 2 fs (by_letter true last c fs) (by_letter false last c fs)
letter_fits last c fs =
    cond_fits (eqb c 81) 2 fs _ _ _ _ (quota_fits last.day fs)
    (cond_fits (eqb c 80) 2 fs _ _ _ _ (price_fits last.month fs)
    (cond_fits (eqb c 70) 2 fs _ _ _ _ (final_fits last.year fs) (ap Err (omega arith))))

pub unended : (last : Dates) (line : List ℕ) → line_entry false last line ≡ Err (without_end (line_entry true last line) (length (fields line)))
unfolding line_entry
unended last line =
    field_fits 1 (omega arith) letter (fields line) (by_letter true last) (by_letter false last) (letter_fits last)
    ∙ ap (λ k. Err (without_end (field true 1 letter (fields line) (by_letter true last)) k)) (omega arith)
