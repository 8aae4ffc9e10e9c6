-- The text that states entries, and when a text states them. Assumes nothing.
use Rattle.std.specs.Prelude.{◌≡◌, ℕ, ◌≤◌, true, List, [], ◌∷◌, ◌++◌, length, codes, decimal}
use Rattle.std.specs.List.{flat_map}
use Rattle.text.specs.Pieces.{with_commas}
use Rattle.amounts.specs.Amounts.{lawful_quota, lawful_price}
use Rattle.calendar.specs.Days.{is_day, is_month, is_year}
use Rattle.calendar.specs.Dates.{date_text, month_text, year_text}
use Rattle.notice_text.specs.declared.entry.Entry.{Entry}
use Rattle.notice_text.specs.declared.entry.Entry.TheVariants.{Quota, Price, Final}
use Rattle.notice_text.specs.Lines.{Follows}
use Rattle.sources.specs.Board.{Figures, nothing}
use Rattle.notice.specs.Notices.{last_dates, with_entry}

-- the fields of the line that states an entry
abbrev pub entry_fields : Entry → List (List ℕ)
entry_fields (Quota q) = codes "Q" ∷ date_text q.from ∷ decimal q.quota ∷ []
entry_fields (Price p) = codes "P" ∷ month_text p.month ∷ decimal p.price ∷ []
entry_fields (Final f) = codes "F" ∷ year_text f.year ∷ decimal f.figures.quota ∷ decimal f.figures.price ∷ []

-- that line, without its byte 10
unfoldable pub entry_line : Entry → List ℕ
entry_line e = with_commas (entry_fields e)

-- the text that states entries: a line for each, in their order, with its byte 10
abbrev pub written : List Entry → List ℕ
written es = flat_map (λ e. entry_line e ++ 10 ∷ []) es

-- a date of the calendar, and figures in their ranges
abbrev pub LawfulEntry : Entry → Type 0
LawfulEntry (Quota q) = (is_day q.from ≡ true) × (lawful_quota q.quota ≡ true)
LawfulEntry (Price p) = (is_month p.month ≡ true) × (lawful_price p.price ≡ true)
LawfulEntry (Final f) = (is_year f.year ≡ true) × (lawful_quota f.figures.quota ≡ true) × (lawful_price f.figures.price ≡ true)

-- the figures f, and those of entries behind them
abbrev pub told : Figures → List Entry → Figures
told f [] = f
told f (e ∷ es) = told (with_entry e f) es

-- each entry behind the figures f is lawful, and has a later date than the last one of its letter
abbrev pub Lawful : Figures → List Entry → Type 0
Lawful f [] = Unit {0}
Lawful f (e ∷ es) = LawfulEntry e × Follows (last_dates f) e × Lawful (with_entry e f) es

-- a text states these entries
pub record States (t : List ℕ) (es : List Entry) : Type 0 where
  pub text : t ≡ written es
  pub lawful : Lawful nothing es
  pub short : length t ≤ 65536
