-- The line of an entry is read as that entry.
use Rattle.std.proofs.Common.{◌≡◌, ℕ, zero, suc, ◌+◌, ◌/◌, ◌%◌, ◌^◌, ◌<◌, true, ltb, leb, [], ◌∷◌, Some, Ok, codes, decimal, Result, ap, ◌∙◌, arith}
use Rattle.std.specs.Option.{ok_or}
use Rattle.std.specs.Result.{result_ok}
use Rattle.std.proofs.lemmas.Fmt.{decimal_by_steps}
use Rattle.std.proofs.ByRecursion.{All-push}
use Rattle.std.proofs.lemmas.Bool.{and_parts, cond-true, leb-true, lt-ltb}
use Rattle.text.specs.Pieces.{fields, Lacks, Without}
use Rattle.text.proofs.Reading.{reads_back}
use Rattle.amounts.specs.Amounts.{lawful_quota, lawful_price}
use Rattle.calendar.specs.Dates.{date_text, day_figure, digits, month_figure, month_text, year_text}
use Rattle.calendar.proofs.Reading.{day_back_read, month_back, year_back}
use Rattle.notice_text.specs.declared.entry.Dates.{Dates}
use Rattle.notice_text.specs.declared.entry.Entry.{Entry}
use Rattle.notice_text.specs.declared.entry.Entry.TheVariants.{Quota, Price, Final}
use Rattle.notice_text.specs.Lines.{Follows, by_letter, field, letter, line_entry, price, quota, such, then_read}
use Rattle.notice_laws.specs.Stating.{entry_fields, entry_line, LawfulEntry}
use Rattle.notice_laws.proofs.Splitting.{commas_lack, fields_of}

-- digits have no byte below theirs
digits_lack : (b : ℕ) → b < 48 → (k n : ℕ) → Lacks b (digits k n)
digits_lack b low zero n = tt
digits_lack b low (suc k) n = All-push (λ c. c ≡ b → ⊥) (digits k (n / 10)) (48 + n % 10) (digits_lack b low k (n / 10)) (λ e. omega arith)

date_lacks : (b : ℕ) → b < 48 → (d : ℕ) → Lacks b (date_text d)
unfolding date_text
date_lacks b low d = digits_lack b low 8 (day_figure d)

month_lacks : (b : ℕ) → b < 48 → (m : ℕ) → Lacks b (month_text m)
unfolding month_text
month_lacks b low m = digits_lack b low 6 (month_figure m)

year_lacks : (b : ℕ) → b < 48 → (y : ℕ) → Lacks b (year_text y)
unfolding year_text
year_lacks b low y = digits_lack b low 4 y

decimal_lacks : (b : ℕ) → b < 48 → (n : ℕ) → n < 2 ^ 32 → Lacks b (decimal n)
decimal_lacks b low n h =
    decimal_by_steps (λ m ds. Lacks b ds)
    (λ m small. ((λ e. omega arith), tt))
    (λ m ds large rest. All-push (λ c. c ≡ b → ⊥) ds (48 + m % 10) rest (λ e. omega arith))
    n (omega arith)

-- figures in their ranges are small
pub quota_small : (q : ℕ) → lawful_quota q ≡ true → q < 2 ^ 32
quota_small q h = let le = leb-true q 999999 h in omega arith

pub price_small : (p : ℕ) → lawful_price p ≡ true → p < 2 ^ 32
price_small p h = let le = leb-true p 2000000 (and_parts (leb 1 p) (leb p 2000000) h).1 in omega arith

-- no field has a byte below the digits, as a comma or byte 10
entry_without : (b : ℕ) → b < 48 → (e : Entry) → LawfulEntry e → Without b (entry_fields e)
entry_without b low (Quota q) h = (((λ e. omega arith), tt), (date_lacks b low q.from, (decimal_lacks b low q.quota (quota_small q.quota h.1), tt)))
entry_without b low (Price p) h = (((λ e. omega arith), tt), (month_lacks b low p.month, (decimal_lacks b low p.price (price_small p.price h.1), tt)))
entry_without b low (Final f) h =
    (((λ e. omega arith), tt), (year_lacks b low f.year, (decimal_lacks b low f.figures.quota (quota_small f.figures.quota h.1), (decimal_lacks b low f.figures.price (price_small f.figures.price h.2), tt))))

-- its fields are cut again
entry_fielded : (e : Entry) → LawfulEntry e → fields (entry_line e) ≡ entry_fields e
unfolding entry_line
entry_fielded (Quota q) h = fields_of _ _ (entry_without 44 (omega arith) (Quota q) h)
entry_fielded (Price p) h = fields_of _ _ (entry_without 44 (omega arith) (Price p) h)
entry_fielded (Final f) h = fields_of _ _ (entry_without 44 (omega arith) (Final f) h)

-- and the line ends at its byte 10 only
pub line_lacks : (e : Entry) → LawfulEntry e → Lacks 10 (entry_line e)
unfolding entry_line
line_lacks (Quota q) h = commas_lack 10 (λ e. omega arith) (codes "Q") (date_text q.from ∷ decimal q.quota ∷ []) (entry_without 10 (omega arith) (Quota q) h)
line_lacks (Price p) h = commas_lack 10 (λ e. omega arith) (codes "P") (month_text p.month ∷ decimal p.price ∷ []) (entry_without 10 (omega arith) (Price p) h)
line_lacks (Final f) h =
    commas_lack 10 (λ e. omega arith) (codes "F") (year_text f.year ∷ decimal f.figures.quota ∷ decimal f.figures.price ∷ []) (entry_without 10 (omega arith) (Final f) h)

-- a date that is written is read again, where it is later than the last
later_again : {E : Type 0} (last n : ℕ) (r : Result ℕ E) → r ≡ Ok n → last < n → such (ltb last) (result_ok r) ≡ Some n
later_again last n r e later = ap (λ s. such (ltb last) (result_ok s)) e ∙ cond-true _ _ _ (lt-ltb last n later)

quota_again : (q : ℕ) → lawful_quota q ≡ true → quota (decimal q) ≡ Some q
quota_again q h = ap (such lawful_quota) (reads_back q (quota_small q h)) ∙ cond-true _ _ _ h

price_again : (p : ℕ) → lawful_price p ≡ true → price (decimal p) ≡ Some p
price_again p h = ap (such lawful_price) (reads_back p (price_small p h)) ∙ cond-true _ _ _ h

pub line_again : (last : Dates) (e : Entry) → LawfulEntry e → Follows last e → line_entry true last (entry_line e) ≡ Ok e
unfolding line_entry
line_again last (Quota q) h follows =
    let day = later_again last.day q.from _ (day_back_read q.from h.0) follows in
    let figure = quota_again q.quota h.1 in
    ap (λ fs. field true 1 letter fs (by_letter true last)) (entry_fielded (Quota q) h)
    ∙ (λ i. then_read (ok_or (day i) 2) (λ d. then_read (ok_or (figure i) 3) (λ n. Ok (Quota (record { from = d; quota = n })))))
line_again last (Price p) h follows =
    let month = later_again last.month p.month _ (month_back p.month h.0) follows in
    let figure = price_again p.price h.1 in
    ap (λ fs. field true 1 letter fs (by_letter true last)) (entry_fielded (Price p) h)
    ∙ (λ i. then_read (ok_or (month i) 2) (λ m. then_read (ok_or (figure i) 3) (λ n. Ok (Price (record { month = m; price = n })))))
line_again last (Final f) h follows =
    let year = later_again last.year f.year _ (year_back f.year h.0) follows in
    let first = quota_again f.figures.quota h.1 in
    let second = price_again f.figures.price h.2 in
    ap (λ fs. field true 1 letter fs (by_letter true last)) (entry_fielded (Final f) h)
    ∙ (λ i. then_read (ok_or (year i) 2) (λ y. then_read (ok_or (first i) 3) (λ q. then_read (ok_or (second i) 4) (λ p. Ok (Final (record { year = y; figures = record { quota = q; price = p } }))))))
