-- Rows of fields, as answers and records are written. Assumes nothing.
use Rattle.std.specs.Prelude.{◌≡◌, ℕ, cond, List, [], ◌∷◌, ◌++◌, replicate, codes, Result, OnOk}
use Rattle.calendar.specs.Dates.{date_text, month_text}
use Rattle.calendar.specs.Days.{is_day, is_month}
use Rattle.rules.specs.declared.types.Kind.{Kind}
use Rattle.rules.specs.declared.types.Kind.TheVariants.{Energy, Settlement, TakeBack}
use Rattle.rules.specs.declared.types.Status.{Status}
use Rattle.rules.specs.declared.types.Status.TheVariants.{Standing, UnderCorrection, Settled}
use Rattle.text.specs.Pieces.{with_commas}

-- a row: its fields parted by commas, and byte 10
abbrev pub row : List (List ℕ) → List ℕ
row fs = with_commas fs ++ 10 ∷ []

-- where the write was done, the text stands behind what was there
abbrev pub Writes : {A B : Type 0} → Result A B → (was is text : List ℕ) → Type 0
Writes r was is text = OnOk r (is ≡ was ++ text)

-- a day as YYYYMMDD; zeros where it is none of the calendar, as no record of a journal has
abbrev pub date_digits : ℕ → List ℕ
date_digits d = cond (is_day d) (date_text d) (replicate 8 48)

-- a month as YYYYMM; zeros where it is none of the calendar
abbrev pub month_digits : ℕ → List ℕ
month_digits m = cond (is_month m) (month_text m) (replicate 6 48)

-- the letter of a kind of line
abbrev pub kind_letter : Kind → List ℕ
kind_letter Energy = codes "E"
kind_letter Settlement = codes "S"
kind_letter TakeBack = codes "T"

-- the word of an interval's status
abbrev pub status_word : Status → List ℕ
status_word Standing = codes "standing"
status_word UnderCorrection = codes "correction"
status_word Settled = codes "settled"
