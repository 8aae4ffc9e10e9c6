-- Reading dates: what is read lies in the calendar, what is written is read again, and no other text is.
use Rattle.std.proofs.Common.{◌≡◌, ℕ, ◌+◌, ◌-◌, ◌/◌, ◌%◌, ◌<◌, ◌≤◌, Bool, true, false, cond, ◌&&◌, leb, List, IfOk, Some, None, Ok, Err, Option, Result, sym, refl, ap, ◌∙◌, arith}
use Rattle.std.proofs.lemmas.Bool.{and_parts, and_from, cond-true, cond_both}
use Rattle.std.proofs.lemmas.Result.{IfOk-weaker, IfOk-at_ok}
use Rattle.calendar.specs.declared.dates.DateFault.{DateFault}
use Rattle.calendar.specs.declared.dates.DateFault.TheVariants.{NoSuchDate}
use Rattle.calendar.specs.Days.{is_day, is_month, is_year, year_of_month, month_in_year, month_number, month_of, month_start, month_length, day_in_month}
use Rattle.calendar.specs.Dates.{number_in, month_figure, day_figure, year_text, month_text, date_text, year_figured, month_figured, day_of_month, day_figured, year_read, month_read, day_read, read_year, read_month, read_date}
use Rattle.calendar.proofs.Starts.{between, tested, months_follow, month_begin, month_within, month_low, month_high, month_alone, year_of-number, month_of-number, year_from, year_to, twelve_low, twelve_high, number_of_month, day_low, day_high, day_back, length_high}
use Rattle.calendar.proofs.Figures.{number_in-digits, digits_of_text}

-- a month that is read is one of the calendar's
abbrev Month : ℕ → Type 0
Month m = (1 ≤ m) × (m ≤ 768)

abbrev Day : ℕ → Type 0
Day d = (1 ≤ d) × (d ≤ 23376)

pub month_figured_in : (v : ℕ) → IfOk (month_figured v) Month
unfolding month_figured month_number
month_figured_in v =
    let y = v / 100 in
    let k = v % 100 in
    cond_both (is_year y && (leb 1 k && leb k 12)) (Ok (month_number y k)) (Err NoSuchDate) (λ (r : Result ℕ DateFault). IfOk r Month)
    (λ e.
    let p = and_parts (is_year y) (leb 1 k && leb k 12) e in
    let a = between 2019 y 2082 p.0 in
    let b = between 1 k 12 p.1 in
    (omega arith, omega arith))
    (λ _. tt)

-- and so is a day
day_of_month_in : (n : ℕ) (r : Result ℕ DateFault) → IfOk r Month → IfOk (day_of_month n r) Day
day_of_month_in n (Ok m) h =
    cond_both (leb 1 n && leb n (month_length m)) (Ok (month_start m + n - 1)) (Err NoSuchDate) (λ (r : Result ℕ DateFault). IfOk r Day)
    (λ e.
    let b = between 1 n (month_length m) e in
    let s = month_begin m in
    let t = month_within m h.0 h.1 in
    (omega arith, omega arith))
    (λ _. tt)
day_of_month_in n (Err fault) h = tt

day_figured_in : (v : ℕ) → IfOk (day_figured v) Day
unfolding day_figured
day_figured_in v = day_of_month_in (v % 100) (month_figured (v / 100)) (month_figured_in (v / 100))

month_read_in : (o : Option ℕ) → IfOk (month_read o) Month
month_read_in (Some v) = month_figured_in v
month_read_in None = tt

day_read_in : (o : Option ℕ) → IfOk (day_read o) Day
day_read_in (Some v) = day_figured_in v
day_read_in None = tt

pub read_month_in : (text : List ℕ) → IfOk (read_month text) (λ m. is_month m ≡ true)
read_month_in text = IfOk-weaker (month_read (number_in 6 text)) Month (λ m. is_month m ≡ true) (λ m h. tested 1 m 768 h.0 h.1) (month_read_in (number_in 6 text))

pub read_date_in : (text : List ℕ) → IfOk (read_date text) (λ d. is_day d ≡ true)
read_date_in text = IfOk-weaker (day_read (number_in 8 text)) Day (λ d. is_day d ≡ true) (λ d h. tested 1 d 23376 h.0 h.1) (day_read_in (number_in 8 text))

-- the number of a month says the month
figured_at : (v y k : ℕ) → v / 100 ≡ y → v % 100 ≡ k → 2019 ≤ y → y ≤ 2082 → 1 ≤ k → k ≤ 12 → month_figured v ≡ Ok (month_number y k)
unfolding month_figured
figured_at v y k e f from to low high =
    let whole : (is_year (v / 100) && (leb 1 (v % 100) && leb (v % 100) 12)) ≡ true = and_from (is_year (v / 100)) (leb 1 (v % 100) && leb (v % 100) 12) (tested 2019 (v / 100) 2082 (omega arith) (omega arith)) (tested 1 (v % 100) 12 (omega arith) (omega arith)) in
    let same : month_number (v / 100) (v % 100) ≡ month_number y k = cc in
    cond-true (is_year (v / 100) && (leb 1 (v % 100) && leb (v % 100) 12)) (Ok (month_number (v / 100) (v % 100))) (Err NoSuchDate) whole ∙ ap Ok same

month_figured_back : (m : ℕ) → 1 ≤ m → m ≤ 768 → month_figured (month_figure m) ≡ Ok m
unfolding month_figure
month_figured_back m low high =
    let a = twelve_low m in
    let b = twelve_high m in
    figured_at (month_figure m) (year_of_month m) (month_in_year m) (omega arith) (omega arith) (year_from m) (year_to m high) a b ∙ ap Ok (number_of_month m low)

-- the number of a day says the day
day_figured_back : (d : ℕ) → 1 ≤ d → d ≤ 23376 → day_figured (day_figure d) ≡ Ok d
unfolding day_figured day_figure
day_figured_back d low high =
    let m = month_of d in
    let n = day_in_month d in
    let v = day_figure d in
    let a = day_low d in
    let b = day_high d low high in
    let c = length_high m in
    let upper : v / 100 ≡ month_figure m = omega arith in
    let lower : v % 100 ≡ n = omega arith in
    let month : month_figured (v / 100) ≡ Ok m = ap month_figured upper ∙ month_figured_back m (month_low d low high) (month_high d low high) in
    ap (day_of_month (v % 100)) month
    ∙ ap (λ j. day_of_month j (Ok m)) lower
    ∙ cond-true (leb 1 n && leb n (month_length m)) (Ok (month_start m + n - 1)) (Err NoSuchDate) (tested 1 n (month_length m) a b)
    ∙ ap Ok (day_back d low high)

month_figure_high : (m : ℕ) → m ≤ 768 → month_figure m ≤ 208212
unfolding month_figure
month_figure_high m high = omega (arith, year_to m high, twelve_high m)

day_figure_high : (d : ℕ) → 1 ≤ d → d ≤ 23376 → day_figure d < 100000000
unfolding day_figure
day_figure_high d low high = omega (arith, month_figure_high (month_of d) (month_high d low high), day_high d low high, length_high (month_of d))

pub month_back : (m : ℕ) → is_month m ≡ true → read_month (month_text m) ≡ Ok m
unfolding month_text
month_back m h =
    let b = between 1 m 768 h in
    ap month_read (number_in-digits 6 (month_figure m) (omega (arith, month_figure_high m b.1))) ∙ month_figured_back m b.0 b.1

pub day_back_read : (d : ℕ) → is_day d ≡ true → read_date (date_text d) ≡ Ok d
unfolding date_text
day_back_read d h =
    let b = between 1 d 23376 h in
    ap day_read (number_in-digits 8 (day_figure d) (omega (arith, day_figure_high d b.0 b.1))) ∙ day_figured_back d b.0 b.1

-- a year that is read is one of the calendar's, and one that is written is read again
year_read_in : (o : Option ℕ) → IfOk (year_read o) (λ y. is_year y ≡ true)
unfolding year_figured
year_read_in (Some v) = cond_both (is_year v) (Ok v) (Err NoSuchDate) (λ (r : Result ℕ DateFault). IfOk r (λ y. is_year y ≡ true)) (λ e. e) (λ _. tt)
year_read_in None = tt

pub read_year_in : (text : List ℕ) → IfOk (read_year text) (λ y. is_year y ≡ true)
read_year_in text = year_read_in (number_in 4 text)

pub year_back : (y : ℕ) → is_year y ≡ true → read_year (year_text y) ≡ Ok y
unfolding year_text year_figured
year_back y h =
    let b = between 2019 y 2082 h in
    ap year_read (number_in-digits 4 y (omega arith)) ∙ cond-true (is_year y) (Ok y) (Err NoSuchDate) h

-- what was read has the number that was read
ok_chosen : (b : Bool) (x y : ℕ) → ◌≡◌ {A = Result ℕ DateFault} (cond b (Ok x) (Err NoSuchDate)) (Ok y) → (b ≡ true) × (x ≡ y)
ok_chosen true x y e = (refl, cc)
ok_chosen false x y e = absurd (cc)

year-number_read : (o : Option ℕ) (y : ℕ) → year_read o ≡ Ok y → o ≡ Some y
unfolding year_figured
year-number_read (Some v) y e = ap Some (ok_chosen (is_year v) v y e).1
year-number_read None y e = absurd (cc)

month_number_figured : (v m : ℕ) → month_figured v ≡ Ok m → month_figure m ≡ v
unfolding month_figured month_figure
month_number_figured v m e =
    let y = v / 100 in
    let k = v % 100 in
    let p = ok_chosen (is_year y && (leb 1 k && leb k 12)) (month_number y k) m e in
    let q = and_parts (is_year y) (leb 1 k && leb k 12) p.0 in
    let a = between 2019 y 2082 q.0 in
    let b = between 1 k 12 q.1 in
    let year : year_of_month m ≡ y = ap year_of_month (sym p.1) ∙ year_of-number y k a.0 b.0 b.1 in
    let month : month_in_year m ≡ k = ap month_in_year (sym p.1) ∙ month_of-number y k b.0 b.1 in
    omega arith

month_number_read : (o : Option ℕ) (m : ℕ) → month_read o ≡ Ok m → o ≡ Some (month_figure m)
month_number_read (Some v) m e = ap Some (sym (month_number_figured v m e))
month_number_read None m e = absurd (cc)

-- day n of the month with the number v is in that month, and is its day n
day-placed : (v n : ℕ) (r : Result ℕ DateFault) (d : ℕ) → month_figured v ≡ r → day_of_month n r ≡ Ok d → (month_figure (month_of d) ≡ v) × (day_in_month d ≡ n)
unfolding day_in_month
day-placed v n (Ok m) d is e =
    let h = IfOk-at_ok Month is (month_figured_in v) in
    let p = ok_chosen (leb 1 n && leb n (month_length m)) (month_start m + n - 1) d e in
    let b = between 1 n (month_length m) p.0 in
    let at = p.1 in
    let next = months_follow m h.0 h.1 in
    let same : month_of d ≡ m = month_alone d m h.0 h.1 (omega arith) (omega arith) in
    let start : month_start (month_of d) ≡ month_start m = ap month_start same in
    (ap month_figure same ∙ month_number_figured v m is, omega arith)
day-placed v n (Err fault) d is e = absurd (cc)

day-number_figured : (v d : ℕ) → day_figured v ≡ Ok d → day_figure d ≡ v
unfolding day_figured day_figure
day-number_figured v d e =
    let p = day-placed (v / 100) (v % 100) (month_figured (v / 100)) d refl e in
    omega (arith, p.0, p.1)

day-number_read : (o : Option ℕ) (d : ℕ) → day_read o ≡ Ok d → o ≡ Some (day_figure d)
day-number_read (Some v) d e = ap Some (sym (day-number_figured v d e))
day-number_read None d e = absurd (cc)

-- so it was read from its own text
pub year_text_alone : (text : List ℕ) (y : ℕ) → read_year text ≡ Ok y → text ≡ year_text y
unfolding year_text
year_text_alone text y e = sym (digits_of_text 4 text y (year-number_read (number_in 4 text) y e))

pub month_text_alone : (text : List ℕ) (m : ℕ) → read_month text ≡ Ok m → text ≡ month_text m
unfolding month_text
month_text_alone text m e = sym (digits_of_text 6 text (month_figure m) (month_number_read (number_in 6 text) m e))

pub date_text_alone : (text : List ℕ) (d : ℕ) → read_date text ≡ Ok d → text ≡ date_text d
unfolding date_text
date_text_alone text d e = sym (digits_of_text 8 text (day_figure d) (day-number_read (number_in 8 text) d e))

-- what the laws of dates follow from
pub ruleset date_steps = (day_back_read, month_back, year_back, read_date_in, read_month_in, read_year_in, date_text_alone, month_text_alone, year_text_alone)
