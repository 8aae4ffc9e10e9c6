-- A text is read as exactly the figures that it states, or refused at the place of its first fault.
use Rattle.std.specs.Prelude.{◌≡◌, ℕ, ◌+◌, ◌<◌, min, true, false, not, ◌⊎◌, List, ◌∷◌, ◌++◌, map, length, Ok, Err, Result}
use Rattle.text.specs.Pieces.{fields}
use Rattle.text.specs.Taken.{is_none}
use Rattle.notice_text.specs.declared.entry.Dates.{Dates}
use Rattle.notice_text.specs.declared.entry.Entry.{Entry}
use Rattle.notice_text.specs.Lines.{line_entry}
use Rattle.notice.specs.declared.tables.Place.{Place}
use Rattle.sources.specs.Board.{Figures, nothing}
use Rattle.notice.specs.Notices.{last_dates, pieces, read_notice}
use Rattle.notice_laws.specs.Stating.{entry_line, told, Lawful, States}

-- a text that is too long is refused whole
abbrev pub TooLong : List ℕ → Place → Type 0
TooLong t p = (65536 < length t) × (p ≡ record { line = 0; field = 0 })

-- the lines before the place state lawful entries, and the line there is faulty at the field, behind those entries
pub record FaultyAt (f : Figures) (n : ℕ) (ps : List (List ℕ)) (p : Place) : Type 0 where
  pub before : List Entry
  pub line : List ℕ
  pub after : List (List ℕ)
  pub parts : ps ≡ map entry_line before ++ (line ∷ after)
  pub lawful : Lawful f before
  pub counted : p.line ≡ length before + n
  pub faulty : line_entry (not (is_none after)) (last_dates (told f before)) line ≡ Err p.field

-- the fault of a line that lacks its byte 10: the last of its fields, unless an earlier one is faulty
abbrev pub without_end : Result Entry ℕ → ℕ → ℕ
without_end (Ok e) count = count
without_end (Err n) count = min n count

pub record NoticeLaws : Type 0 where
  -- a text that states entries is read as their figures
  pub reads : (t : List ℕ) (es : List Entry) → States t es → read_notice t ≡ Ok (told nothing es)
  -- and no other text is read
  pub reads_only : (t : List ℕ) (f : Figures) → read_notice t ≡ Ok f → (es : List Entry) × States t es × (f ≡ told nothing es)
  -- a refusal names the first faulty line, counted from 1, and its fault
  pub refuses : (t : List ℕ) (p : Place) → read_notice t ≡ Err p → TooLong t p ⊎ FaultyAt nothing 1 (pieces t) p
  -- a line that lacks its byte 10 is faulty, at its last field or before
  pub unended : (last : Dates) (line : List ℕ) → line_entry false last line ≡ Err (without_end (line_entry true last line) (length (fields line)))
