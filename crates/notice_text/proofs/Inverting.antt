-- What a line that was read is made of.
use Rattle.std.proofs.Common.{◌≡◌, ℕ, ◌<◌, Bool, true, false, eqb, ltb, List, [], ◌∷◌, Some, None, Ok, Err, Option, Result, sym, refl, ap, ◌∙◌, subst, ⊎_elim, arith}
use Rattle.std.specs.Option.{ok_or}
use Rattle.std.specs.Result.{result_ok}
use Rattle.std.proofs.lemmas.Bool.{cases_Bool, cond-true, cond-false, eqb-true, ltb-true}
use Rattle.text.specs.Pieces.{fields}
use Rattle.notice_text.specs.declared.entry.Entry.{Entry}
use Rattle.notice_text.specs.declared.entry.Entry.TheVariants.{Quota, Price, Final}
use Rattle.notice_text.specs.declared.entry.Dates.{Dates}
use Rattle.notice_text.specs.Lines.{Follows, by_letter, close, day_after, field, final_line, letter, line_entry, month_after, price, price_line, quota, quota_line, such, then_read, year_after}

-- a fault is nothing read
pub faulty : {A X : Type 0} {n : ℕ} {a : A} → ◌≡◌ {A = Result A ℕ} (Err n) (Ok a) → X
faulty e = let z : ◌≡◌ {A = ℕ} 0 1 = cc in absurd (omega arith)

-- a field that was read: its text and what that gave, and what was made of it and of the fields after it
pub record Took {A B : Type 0} (read : List ℕ → Option A) (fs : List (List ℕ)) (more : A → List (List ℕ) → Result B ℕ) (x : B) : Type 0 where
  pub text : List ℕ
  pub others : List (List ℕ)
  pub value : A
  pub fields : fs ≡ text ∷ others
  pub reads : read text ≡ Some value
  pub goes : more value others ≡ Ok x

took_by : {A B : Type 0} (n : ℕ) (read : List ℕ → Option A) (t : List ℕ) (ts : List (List ℕ)) (more : A → List (List ℕ) → Result B ℕ) (x : B) (o : Option A) → read t ≡ o → then_read (ok_or o n) (λ a. more a ts) ≡ Ok x → Took read (t ∷ ts) more x
took_by n read t ts more x None is e = faulty e
took_by n read t ts more x (Some a) is e = record { text = t; others = ts; value = a; fields = refl; reads = is; goes = e }

pub took : {A B : Type 0} (ended : Bool) (n : ℕ) (read : List ℕ → Option A) (fs : List (List ℕ)) (more : A → List (List ℕ) → Result B ℕ) (x : B) → field ended n read fs more ≡ Ok x → Took read fs more x
took ended n read [] more x e = faulty e
took ended n read (t ∷ ts) more x e = took_by n read t ts more x (read t) refl e

-- a line that is closed has no field more, and its byte 10
pub closed : {B : Type 0} (ended : Bool) (n : ℕ) (fs : List (List ℕ)) (x y : B) → close ended n fs x ≡ Ok y → (fs ≡ []) × (ended ≡ true) × (x ≡ y)
closed true n [] x y e = (refl, refl, cc)
closed false n [] x y e = faulty e
closed ended n (t ∷ ts) x y e = faulty e

-- what passed a test
pub such_some : (test : ℕ → Bool) (o : Option ℕ) (n : ℕ) → such test o ≡ Some n → (o ≡ Some n) × (test n ≡ true)
such_some test None n e = let z : ◌≡◌ {A = ℕ} 0 1 = cc in absurd (omega arith)
such_some test (Some m) n e =
    ⊎_elim
    (λ (h : test m ≡ true). let is : Some m ≡ Some n = sym (cond-true _ _ _ h) ∙ e in let same : m ≡ n = cc in (is, sym (ap test same) ∙ h))
    (λ (h : test m ≡ false). let is : None ≡ Some n = sym (cond-false _ _ _ h) ∙ e in let z : ◌≡◌ {A = ℕ} 0 1 = cc in absurd (omega arith))
    (cases_Bool (test m))

-- a date that was read, later than the last
pub later_read : {E : Type 0} (last : ℕ) (r : Result ℕ E) (n : ℕ) → such (ltb last) (result_ok r) ≡ Some n → (r ≡ Ok n) × (last < n)
later_read last (Err y) n e = let z : ◌≡◌ {A = ℕ} 0 1 = cc in absurd (omega arith)
later_read last (Ok m) n e =
    let p = such_some (ltb last) (Some m) n e in
    let same : m ≡ n = cc in
    (ap Ok same, ltb-true last n p.1)

-- a line behind its letter: a date of this letter's kind, then its figures
pub record Dated (read-day : ℕ → List ℕ → Option ℕ) (figures : List (List ℕ) → ℕ → Entry → Type 0) (ended : Bool) (last : ℕ) (fs : List (List ℕ)) (e : Entry) : Type 0 where
  pub date : List ℕ
  pub others : List (List ℕ)
  pub at : ℕ
  pub fields : fs ≡ date ∷ others
  pub reads : read-day last date ≡ Some at
  pub has_end : ended ≡ true
  pub figured : figures others at e

-- the figures of a `Q` line, a `P` line and an `F` line
pub record QuotaFigure (fs : List (List ℕ)) (at : ℕ) (e : Entry) : Type 0 where
  pub text : List ℕ
  pub value : ℕ
  pub fields : fs ≡ text ∷ []
  pub reads : quota text ≡ Some value
  pub is : Quota (record { from = at; quota = value }) ≡ e

pub record PriceFigure (fs : List (List ℕ)) (at : ℕ) (e : Entry) : Type 0 where
  pub text : List ℕ
  pub value : ℕ
  pub fields : fs ≡ text ∷ []
  pub reads : price text ≡ Some value
  pub is : Price (record { month = at; price = value }) ≡ e

pub record FinalFigures (fs : List (List ℕ)) (at : ℕ) (e : Entry) : Type 0 where
  pub quota-text : List ℕ
  pub price-text : List ℕ
  pub quota-value : ℕ
  pub price-value : ℕ
  pub fields : fs ≡ quota-text ∷ price-text ∷ []
  pub quota-reads : quota quota-text ≡ Some quota-value
  pub price-reads : price price-text ≡ Some price-value
  pub is : Final (record { year = at; figures = record { quota = quota-value; price = price-value } }) ≡ e

-- the last field, and the last two
last-field : {fs rest : List (List ℕ)} {t : List ℕ} → fs ≡ t ∷ rest → rest ≡ [] → fs ≡ t ∷ []
last-field {fs} {rest} {t} e none = e ∙ ap (λ r. t ∷ r) none

both_fields : {fs gs rest : List (List ℕ)} {t u : List ℕ} → fs ≡ t ∷ gs → gs ≡ u ∷ rest → rest ≡ [] → fs ≡ t ∷ u ∷ []
both_fields {fs} {gs} {rest} {t} {u} e f none = e ∙ ap (λ r. t ∷ r) (last-field f none)

-- what is left to read behind each field
abbrev quota_end : Bool → ℕ → ℕ → List (List ℕ) → Result Entry ℕ
quota_end ended d q fs = close ended 4 fs (Quota (record { from = d; quota = q }))

abbrev quota_rest : Bool → ℕ → List (List ℕ) → Result Entry ℕ
quota_rest ended d fs = field ended 3 quota fs (quota_end ended d)

abbrev price_end : Bool → ℕ → ℕ → List (List ℕ) → Result Entry ℕ
price_end ended m p fs = close ended 4 fs (Price (record { month = m; price = p }))

abbrev price_rest : Bool → ℕ → List (List ℕ) → Result Entry ℕ
price_rest ended m fs = field ended 3 price fs (price_end ended m)

abbrev final_end : Bool → ℕ → ℕ → ℕ → List (List ℕ) → Result Entry ℕ
final_end ended y q p fs = close ended 5 fs (Final (record { year = y; figures = record { quota = q; price = p } }))

abbrev final-price : Bool → ℕ → ℕ → List (List ℕ) → Result Entry ℕ
final-price ended y q fs = field ended 4 price fs (final_end ended y q)

abbrev final_rest : Bool → ℕ → List (List ℕ) → Result Entry ℕ
final_rest ended y fs = field ended 3 quota fs (final-price ended y)

pub quota_read : (ended : Bool) (last : ℕ) (fs : List (List ℕ)) (e : Entry) → quota_line ended last fs ≡ Ok e → Dated day_after QuotaFigure ended last fs e
quota_read ended last fs e h =
    let d = took ended 2 (day_after last) fs (quota_rest ended) e h in
    let q = took ended 3 quota d.others (quota_end ended d.value) e d.goes in
    let z = closed ended 4 q.others _ e q.goes in
    record {
      date = d.text;
      others = d.others;
      at = d.value;
      fields = d.fields;
      reads = d.reads;
      has_end = z.1;
      figured = record { text = q.text; value = q.value; fields = last-field q.fields z.0; reads = q.reads; is = z.2 };
    }

pub price_read : (ended : Bool) (last : ℕ) (fs : List (List ℕ)) (e : Entry) → price_line ended last fs ≡ Ok e → Dated month_after PriceFigure ended last fs e
price_read ended last fs e h =
    let d = took ended 2 (month_after last) fs (price_rest ended) e h in
    let p = took ended 3 price d.others (price_end ended d.value) e d.goes in
    let z = closed ended 4 p.others _ e p.goes in
    record {
      date = d.text;
      others = d.others;
      at = d.value;
      fields = d.fields;
      reads = d.reads;
      has_end = z.1;
      figured = record { text = p.text; value = p.value; fields = last-field p.fields z.0; reads = p.reads; is = z.2 };
    }

pub final_read : (ended : Bool) (last : ℕ) (fs : List (List ℕ)) (e : Entry) → final_line ended last fs ≡ Ok e → Dated year_after FinalFigures ended last fs e
final_read ended last fs e h =
    let d = took ended 2 (year_after last) fs (final_rest ended) e h in
    let q = took ended 3 quota d.others (final-price ended d.value) e d.goes in
    let p = took ended 4 price q.others (final_end ended d.value q.value) e q.goes in
    let z = closed ended 5 p.others _ e p.goes in
    record {
      date = d.text;
      others = d.others;
      at = d.value;
      fields = d.fields;
      reads = d.reads;
      has_end = z.1;
      figured =
          record {
            quota-text = q.text;
            price-text = p.text;
            quota-value = q.value;
            price-value = p.value;
            fields = both_fields q.fields p.fields z.0;
            quota-reads = q.reads;
            price-reads = p.reads;
            is = z.2;
          };
    }

-- a date that was read is later than the last
quota_follows : (ended : Bool) (last : Dates) (fs : List (List ℕ)) (e : Entry) → quota_line ended last.day fs ≡ Ok e → Follows last e
quota_follows ended last fs e h = let d = quota_read ended last.day fs e h in subst (Follows last) d.figured.is (later_read last.day _ d.at d.reads).1

price_follows : (ended : Bool) (last : Dates) (fs : List (List ℕ)) (e : Entry) → price_line ended last.month fs ≡ Ok e → Follows last e
price_follows ended last fs e h = let d = price_read ended last.month fs e h in subst (Follows last) d.figured.is (later_read last.month _ d.at d.reads).1

final_follows : (ended : Bool) (last : Dates) (fs : List (List ℕ)) (e : Entry) → final_line ended last.year fs ≡ Ok e → Follows last e
final_follows ended last fs e h = let d = final_read ended last.year fs e h in subst (Follows last) d.figured.is (later_read last.year _ d.at d.reads).1

-- the three forms of a line, by its letter
pub by_form : {X : Type 0} (ended : Bool) (last : Dates) (c : ℕ) (fs : List (List ℕ)) (e : Entry) → (c ≡ 81 → quota_line ended last.day fs ≡ Ok e → X) → (c ≡ 80 → price_line ended last.month fs ≡ Ok e → X) → (c ≡ 70 → final_line ended last.year fs ≡ Ok e → X) → by_letter ended last c fs ≡ Ok e → X
by_form ended last c fs e q p f h =
    ⊎_elim
    (λ (is : eqb c 81 ≡ true). q (eqb-true c 81 is) (sym (cond-true _ _ _ is) ∙ h))
    (λ (no-q : eqb c 81 ≡ false).
    let h1 = sym (cond-false _ _ _ no-q) ∙ h in
    ⊎_elim
    (λ (is : eqb c 80 ≡ true). p (eqb-true c 80 is) (sym (cond-true _ _ _ is) ∙ h1))
    (λ (no-p : eqb c 80 ≡ false).
    let h2 = sym (cond-false _ _ _ no-p) ∙ h1 in
    ⊎_elim
    (λ (is : eqb c 70 ≡ true). f (eqb-true c 70 is) (sym (cond-true _ _ _ is) ∙ h2))
    (λ (no-f : eqb c 70 ≡ false). faulty (sym (cond-false _ _ _ no-f) ∙ h2))
    (cases_Bool (eqb c 70)))
    (cases_Bool (eqb c 80)))
    (cases_Bool (eqb c 81))

pub line_follows : (ended : Bool) (last : Dates) (line : List ℕ) (e : Entry) → line_entry ended last line ≡ Ok e → Follows last e
unfolding line_entry
line_follows ended last line e h =
    let l = took ended 1 letter (fields line) (by_letter ended last) e h in
    by_form ended last l.value l.others e (λ _. quota_follows ended last l.others e) (λ _. price_follows ended last l.others e) (λ _. final_follows ended last l.others e) l.goes
