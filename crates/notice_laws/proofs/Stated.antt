-- A line that is read is the line of its entry, and of no other.
use Rattle.std.proofs.Common.{◌≡◌, ℕ, Bool, true, eqb, List, [], ◌∷◌, length, Some, None, Ok, codes, decimal, Option, sym, ap, ◌∙◌, subst, arith}
use Rattle.std.proofs.lemmas.Result.{IfOk-at_ok}
use Rattle.std.proofs.lemmas.Bool.{cond-false, ne_eqb}
use Rattle.text.specs.Numbers.{number}
use Rattle.text.specs.Pieces.{fields}
use Rattle.text.proofs.Reading.{reads_only-written}
use Rattle.amounts.specs.Amounts.{lawful_quota, lawful_price}
use Rattle.calendar.specs.Days.{is_day, is_month, is_year}
use Rattle.calendar.specs.Dates.{date_text, month_text, year_text, read_date, read_month, read_year}
use Rattle.calendar.proofs.Reading.{date_text_alone, month_text_alone, year_text_alone, read_date_in, read_month_in, read_year_in}
use Rattle.notice_text.specs.declared.entry.Dates.{Dates}
use Rattle.notice_text.specs.declared.entry.Entry.{Entry}
use Rattle.notice_text.specs.declared.entry.Entry.TheVariants.{Quota, Price, Final}
use Rattle.notice_text.specs.Lines.{by_letter, final_line, letter, line_entry, price, price_line, quota, quota_line}
use Rattle.notice_text.proofs.Inverting.{by_form, final_read, later_read, price_read, quota_read, such_some, took}
use Rattle.notice_laws.specs.Stating.{entry_line, LawfulEntry}
use Rattle.notice_laws.proofs.Splitting.{line_of}

-- nothing is no value
none_some : {X : Type 0} {n : ℕ} → ◌≡◌ {A = Option ℕ} None (Some n) → X
none_some e = let z : ◌≡◌ {A = ℕ} 0 1 = cc in absurd (omega arith)

letter-text : (t : List ℕ) (c : ℕ) → letter t ≡ Some c → t ≡ c ∷ []
letter-text [] c e = none_some e
letter-text (x ∷ []) c e = let same : x ≡ c = cc in ap (λ y. y ∷ []) same
letter-text (x ∷ y ∷ ys) c e = none_some (sym (cond-false (eqb (length (x ∷ y ∷ ys)) 1) (Some x) None (ne_eqb (length (x ∷ y ∷ ys)) 1 (λ h. omega arith))) ∙ e)

-- what a figure that was read is
quota_is : (t : List ℕ) (q : ℕ) → quota t ≡ Some q → (t ≡ decimal q) × (lawful_quota q ≡ true)
quota_is t q e = let p = such_some lawful_quota (number t) q e in ((reads_only-written t q p.0).0, p.1)

price_is : (t : List ℕ) (q : ℕ) → price t ≡ Some q → (t ≡ decimal q) × (lawful_price q ≡ true)
price_is t q e = let p = such_some lawful_price (number t) q e in ((reads_only-written t q p.0).0, p.1)

-- an entry whose line this is, and the line's byte 10
pub record LineOf (ended : Bool) (line : List ℕ) (e : Entry) : Type 0 where
  pub has_end : ended ≡ true
  pub text : line ≡ entry_line e
  pub lawful : LawfulEntry e

-- the fields behind a letter, as the entry has them
abbrev Behind : Bool → List ℕ → ℕ → List (List ℕ) → Entry → Type 0
Behind ended line c fs e = fields line ≡ (c ∷ []) ∷ fs → LineOf ended line e

quota-stated : (ended : Bool) (last : ℕ) (line : List ℕ) (fs : List (List ℕ)) (e : Entry) → quota_line ended last fs ≡ Ok e → Behind ended line 81 fs e
unfolding entry_line
quota-stated ended last line fs e h is =
    let d = quota_read ended last fs e h in
    let q = d.figured in
    let day = later_read last (read_date d.date) d.at d.reads in
    let figure = quota_is q.text q.value q.reads in
    let text = is ∙ ap (λ r. codes "Q" ∷ r) (d.fields ∙ (λ i. date_text_alone d.date d.at day.0 i ∷ (q.fields ∙ ap (λ t. t ∷ []) figure.0) i)) in
    let made : LineOf ended line (Quota (record { from = d.at; quota = q.value })) =
    record {
      has_end = d.has_end;
      text = line_of line (codes "Q") (date_text d.at ∷ decimal q.value ∷ []) text;
      lawful = (IfOk-at_ok (λ n. is_day n ≡ true) day.0 (read_date_in d.date), figure.1);
    }
    in
    subst (λ (g : Entry). LineOf ended line g) q.is made

price-stated : (ended : Bool) (last : ℕ) (line : List ℕ) (fs : List (List ℕ)) (e : Entry) → price_line ended last fs ≡ Ok e → Behind ended line 80 fs e
unfolding entry_line
price-stated ended last line fs e h is =
    let d = price_read ended last fs e h in
    let p = d.figured in
    let month = later_read last (read_month d.date) d.at d.reads in
    let figure = price_is p.text p.value p.reads in
    let text = is ∙ ap (λ r. codes "P" ∷ r) (d.fields ∙ (λ i. month_text_alone d.date d.at month.0 i ∷ (p.fields ∙ ap (λ t. t ∷ []) figure.0) i)) in
    let made : LineOf ended line (Price (record { month = d.at; price = p.value })) =
    record {
      has_end = d.has_end;
      text = line_of line (codes "P") (month_text d.at ∷ decimal p.value ∷ []) text;
      lawful = (IfOk-at_ok (λ n. is_month n ≡ true) month.0 (read_month_in d.date), figure.1);
    }
    in
    subst (λ (g : Entry). LineOf ended line g) p.is made

final-stated : (ended : Bool) (last : ℕ) (line : List ℕ) (fs : List (List ℕ)) (e : Entry) → final_line ended last fs ≡ Ok e → Behind ended line 70 fs e
unfolding entry_line
final-stated ended last line fs e h is =
    let d = final_read ended last fs e h in
    let f = d.figured in
    let year = later_read last (read_year d.date) d.at d.reads in
    let q = quota_is f.quota-text f.quota-value f.quota-reads in
    let p = price_is f.price-text f.price-value f.price-reads in
    let figures = f.fields ∙ (λ i. q.0 i ∷ p.0 i ∷ []) in
    let text = is ∙ ap (λ r. codes "F" ∷ r) (d.fields ∙ (λ i. year_text_alone d.date d.at year.0 i ∷ figures i)) in
    let made : LineOf ended line (Final (record { year = d.at; figures = record { quota = f.quota-value; price = f.price-value } })) =
    record {
      has_end = d.has_end;
      text = line_of line (codes "F") (year_text d.at ∷ decimal f.quota-value ∷ decimal f.price-value ∷ []) text;
      lawful = (IfOk-at_ok (λ n. is_year n ≡ true) year.0 (read_year_in d.date), q.1, p.1);
    }
    in
    subst (λ (g : Entry). LineOf ended line g) f.is made

pub line-stated : (ended : Bool) (last : Dates) (line : List ℕ) (e : Entry) → line_entry ended last line ≡ Ok e → LineOf ended line e
unfolding line_entry
line-stated ended last line e h =
    let l = took ended 1 letter (fields line) (by_letter ended last) e h in
    let first = l.fields ∙ ap (λ t. t ∷ l.others) (letter-text l.text l.value l.reads) in
    by_form ended last l.value l.others e
    (λ c g. quota-stated ended last.day line l.others e g (first ∙ ap (λ x. (x ∷ []) ∷ l.others) c))
    (λ c g. price-stated ended last.month line l.others e g (first ∙ ap (λ x. (x ∷ []) ∷ l.others) c))
    (λ c g. final-stated ended last.year line l.others e g (first ∙ ap (λ x. (x ∷ []) ∷ l.others) c))
    l.goes
