-- The lines of a notice: a letter, a date and its figures, parted by commas. Assumes nothing.
use Rattle.std.specs.Prelude.{ℕ, ◌-◌, ◌<◌, Bool, cond, List, [], ◌∷◌, length, Some, None, Ok, Err, Option, Result, ◌==◌, nat_lt, slice_index}
use Rattle.std.specs.Borrow.{Bor}
use Rattle.std.specs.Option.{ok_or}
use Rattle.std.specs.Result.{result_ok}
use Rattle.text.specs.Numbers.{and_then, number}
use Rattle.text.specs.Pieces.{fields}
use Rattle.text.specs.Taken.{after_next, is_none}
use Rattle.amounts.specs.Amounts.{lawful_quota, lawful_price}
use Rattle.calendar.specs.Dates.{read_date, read_month, read_year}
use Rattle.notice_text.specs.declared.entry.Entry.{Entry}
use Rattle.notice_text.specs.declared.entry.Entry.TheVariants.{Quota, Price, Final}
use Rattle.notice_text.specs.declared.entry.Dates.{Dates}

-- what was read, where it passes the test
abbrev pub such : (ℕ → Bool) → Option ℕ → Option ℕ
such test o = and_then o (λ n. cond (test n) (Some n) None)

-- a day, a month, a year later than the last one of its letter
abbrev pub day_after : ℕ → List ℕ → Option ℕ
day_after last t = such (nat_lt last) (result_ok (read_date t))

abbrev pub month_after : ℕ → List ℕ → Option ℕ
month_after last t = such (nat_lt last) (result_ok (read_month t))

abbrev pub year_after : ℕ → List ℕ → Option ℕ
year_after last t = such (nat_lt last) (result_ok (read_year t))

-- a quota and a price in their ranges
abbrev pub quota : List ℕ → Option ℕ
quota t = such lawful_quota (number t)

abbrev pub price : List ℕ → Option ℕ
price t = such lawful_price (number t)

-- the one byte of a text that has no other
abbrev pub letter : List ℕ → Option ℕ
letter t = cond (length t == 1) (Some (slice_index t 0)) None

-- the fault where field n is missing: that field, or the one before it, which is the last written, where the line lacks its byte 10
abbrev pub missing : Bool → ℕ → ℕ
missing ended n = cond ended n (n - 1)

-- what is made of what was read, where nothing was faulty
abbrev pub then_read : {A B : Type 0} → Result A ℕ → (A → Result B ℕ) → Result B ℕ
then_read (Ok a) more = more a
then_read (Err n) more = Err n

-- the text of field n, the first of those that are left
abbrev pub next_text : Bool → ℕ → List (List ℕ) → Result (List ℕ) ℕ
next_text ended n [] = Err (missing ended n)
next_text ended n (f ∷ fs) = Ok f

-- field n as `read` reads it; that and the fields after it go on to `more`
abbrev pub field : {A B : Type 0} → Bool → ℕ → (List ℕ → Option A) → List (List ℕ) → (A → List (List ℕ) → Result B ℕ) → Result B ℕ
field ended n read fs more = then_read (next_text ended n fs) (λ t. then_read (ok_or (read t) n) (λ a. more a (after_next fs)))

-- no field n is left, and the line has its byte 10: the line is `x`
abbrev pub close : {B : Type 0} → Bool → ℕ → List (List ℕ) → B → Result B ℕ
close ended n fs x = cond (is_none fs) (cond ended (Ok x) (Err (n - 1))) (Err n)

-- `Q,YYYYMMDD,quota`
abbrev pub quota_line : Bool → ℕ → List (List ℕ) → Result Entry ℕ
quota_line ended last fs =
    field ended 2 (day_after last) fs (λ day fs. field ended 3 quota fs (λ q fs. close ended 4 fs (Quota (record { from = day; quota = q }))))

-- `P,YYYYMM,price`
abbrev pub price_line : Bool → ℕ → List (List ℕ) → Result Entry ℕ
price_line ended last fs =
    field ended 2 (month_after last) fs (λ month fs. field ended 3 price fs (λ p fs. close ended 4 fs (Price (record { month = month; price = p }))))

-- `F,YYYY,quota,price`
abbrev pub final_line : Bool → ℕ → List (List ℕ) → Result Entry ℕ
final_line ended last fs =
    field ended 2 (year_after last) fs (λ year fs. field ended 3 quota fs (λ q fs. field ended 4 price fs (λ p fs. close ended 5 fs (Final (record { year = year; figures = record { quota = q; price = p } })))))

-- the line's form goes by its letter
abbrev pub by_letter : Bool → Dates → ℕ → List (List ℕ) → Result Entry ℕ
by_letter ended last c fs =
    cond (c == 81) (quota_line ended last.day fs) (cond (c == 80) (price_line ended last.month fs) (cond (c == 70) (final_line ended last.year fs) (Err 1)))

-- the entry that a line states, or its first faulty field, counted from 1; `ended` says whether it has its byte 10
unfoldable pub line_entry : Bool → Dates → List ℕ → Result Entry ℕ
line_entry ended last line = field ended 1 letter (fields line) (λ c fs. by_letter ended last c fs)

-- an entry with a later date than the last one of its letter
abbrev pub Follows : Dates → Entry → Type 0
Follows last (Quota q) = last.day < q.from
Follows last (Price p) = last.month < p.month
Follows last (Final y) = last.year < y.year

-- what a slice that was taken holds
abbrev pub text_of : Result (Bor (List ℕ)) ℕ → Result (List ℕ) ℕ
text_of (Ok t) = Ok t.now
text_of (Err n) = Err n
