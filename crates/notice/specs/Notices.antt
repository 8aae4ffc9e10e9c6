-- What a notice states. Assumes nothing.
use Rattle.std.specs.Prelude.{ℕ, ◌+◌, ◌-◌, cond, not, ◌&&◌, List, [], ◌∷◌, length, Ok, Err, Result, ◌==◌, nat_lt, slice_index_or}
use Rattle.text.specs.Pieces.{split}
use Rattle.text.specs.Taken.{is_none}
use Rattle.sources.specs.declared.figures.MonthPrice.{MonthPrice}
use Rattle.sources.specs.declared.figures.FinalPair.{FinalPair}
use Rattle.sources.specs.Board.{Figures, nothing, with_pair, with_price, with_quota}
use Rattle.sources.specs.Figures.{last_day, month_at}
use Rattle.amounts.specs.declared.refusal.Refusal.{Refusal}
use Rattle.amounts.specs.declared.refusal.Refusal.TheVariants.{FaultyNotice}
use Rattle.notice.specs.declared.held.Notice.{Notice}
use Rattle.notice_text.specs.declared.entry.Dates.{Dates}
use Rattle.notice_text.specs.declared.entry.Entry.{Entry}
use Rattle.notice_text.specs.declared.entry.Entry.TheVariants.{Quota, Price, Final}
use Rattle.notice.specs.declared.tables.Tables.{Tables}
use Rattle.notice.specs.declared.tables.Place.{Place}
use Rattle.notice.specs.Tabled.{records_of}
use Rattle.notice_text.specs.Lines.{line_entry}

-- one entry more, after the others of its letter
abbrev pub with_entry : Entry → Figures → Figures
with_entry (Quota q) f = with_quota q f
with_entry (Price p) f = with_price p f
with_entry (Final y) f = with_pair y f

-- the last month and the last year; 0 before any is
abbrev pub last_month : List MonthPrice → ℕ
last_month ps = month_at ps (length ps - 1)

abbrev pub last_year : List FinalPair → ℕ
last_year fs = (slice_index_or fs (length fs - 1) (record { year = 0; figures = record { quota = 0; price = 0 } })).year

-- the last date of each letter
abbrev pub last_dates : Figures → Dates
last_dates f = record { day = last_day f.quotas; month = last_month f.prices; year = last_year f.pairs }

-- the pieces of a text before, between and after its bytes 10: a line that has its byte 10 is followed by another piece
abbrev pub pieces : List ℕ → List (List ℕ)
pieces t = split 10 ([] ∷ []) t

-- the line with this number was read: a fault is refused there, and an entry goes on to `more`
abbrev pub on_line : ℕ → Result Entry ℕ → (Entry → Result Figures Place) → Result Figures Place
on_line n (Ok e) more = more e
on_line n (Err k) more = Err (record { line = n; field = k })

-- the lines from number n on, behind lines with the figures f: what follows the last byte 10 is a line unless it is empty
abbrev pub read_lines : ℕ → Figures → List (List ℕ) → Result Figures Place
read_lines n f [] = Ok f
read_lines n f (p ∷ ps) =
    cond (is_none ps && length p == 0) (Ok f) (on_line n (line_entry (not (is_none ps)) (last_dates f) p) (λ e. read_lines (n + 1) (with_entry e f) ps))

-- the figures that a notice states, or the first line that is faulty and its first faulty field; a text of more than 65,536 bytes is refused whole
unfoldable pub read_notice : List ℕ → Result Figures Place
read_notice t = cond (nat_lt 65536 (length t)) (Err (record { line = 0; field = 0 })) (read_lines 1 nothing (pieces t))

-- the figures in tables
abbrev pub figures : Tables → Figures
figures t = record { quotas = records_of t.quotas; prices = records_of t.prices; pairs = records_of t.pairs }

-- what was found of a notice
abbrev pub stated : Result Tables Place → Result Figures Place
stated (Ok t) = Ok (figures t)
stated (Err p) = Err p

-- what a notice says
abbrev pub says : Notice → Result Figures Place
says n = stated n.found

-- the answer of its check
abbrev pub checked : Result Figures Place → Result (Unit {0}) Refusal
checked (Ok f) = Ok tt
checked (Err p) = Err (FaultyNotice p.line p.field)

-- the figures that it tells: none where it is faulty
abbrev pub tells : Result Figures Place → Figures
tells (Ok f) = f
tells (Err p) = nothing
