-- What a command does to the books of an office, and what it is answered.
use Rattle.std.specs.Prelude.{ℕ, ◌-◌, List, length, replicate, Some, None, Ok, Err, Option, Result}
use Rattle.std.specs.Option.{option_map}
use Rattle.amounts.specs.declared.refusal.Refusal.{Refusal}
use Rattle.amounts.specs.Tables.{Outcome, first_refused}
use Rattle.meters.specs.Index.{Known, index_kwh, index_table}
use Rattle.meters.specs.Register.{Readings, register_kwh}
use Rattle.notice.specs.Notices.{checked, read_notice, says, tells}
use Rattle.notice.specs.declared.tables.Place.{Place}
use Rattle.sources.specs.Board.{Figures, figures, forget, nothing, tell_final, tell_price, tell_quota}
use Rattle.sources.specs.Figures.{price_of, quota_on}
use Rattle.books.specs.declared.enrolment.Enrolment.{Enrolment}
use Rattle.books.specs.Roll.{enrol_outcome, enrolled, places}
use Rattle.rules.specs.declared.types.Supply.{Supply}
use Rattle.rules.specs.Books.{Books, balance}
use Rattle.rules.specs.Issue.{asked, issue}
use Rattle.journal.specs.Model.{model}
use Rattle.answers.specs.Answers.{numbered, plainly}
use Rattle.answers.specs.declared.answer.Answer.{Answer}
use Rattle.answers.specs.declared.answer.Answer.TheVariants.{Taken, Number, Amount, Refused, Bad}
use Rattle.commands.specs.declared.command.Command.{Command}
use Rattle.commands.specs.declared.command.Command.TheVariants.{Setup, Enrol, Quota, Price, Final, Forget, Board, Notice, Register, Hour, Issue, Balance, Lines, Intervals}
use Rattle.commands.specs.declared.command.IndexReading.{IndexReading}
use Rattle.commands.specs.declared.command.MeterField.{MeterField}
use Rattle.commands.specs.declared.command.MeterField.TheVariants.{Index, Register as ByRegister}
use Rattle.office.specs.declared.office.OfficeOf.{OfficeOf}
use Rattle.office.specs.Registers.{by_id, no_registers, open_register, read_register, register_of}

-- the journal's books, what each place is enrolled with, what the board was told, what the registers have read,
-- and what the notice says that is the source in the board's place, if one is
pub record Desk : Type 0 where
  pub books : Books
  pub roll : List (Option Enrolment)
  pub board : Figures
  pub registers : List (Option Readings)
  pub notice : Option (Result Figures Place)

-- what an office holds
abbrev pub desk : {ids : ℕ} → OfficeOf ids → Desk
desk office = record {
  books = model office.journal;
  roll = places office.roll;
  board = figures office.board;
  registers = by_id office.registers;
  notice = option_map says office.notice;
}

-- nobody is enrolled, nothing was told, and none of so many IDs has a register
abbrev pub new_desk : ℕ → Books → Desk
new_desk ids books = record { books = books; roll = replicate 250 None; board = nothing; registers = no_registers ids; notice = None }

-- another source
abbrev pub by_source : Option (Result Figures Place) → Desk → Desk
by_source notice d = record { books = d.books; roll = d.roll; board = d.board; registers = d.registers; notice = notice }

-- an answer, and the desk after it
abbrev pub Obeyed : Type 0
Obeyed = Answer × Desk

-- what became of the roll, the board, the registers or the books, where the rest stays
abbrev pub on_roll : Outcome (Unit {0}) (List (Option Enrolment)) → Desk → Obeyed
on_roll o d = (plainly o.0, record { books = d.books; roll = o.1; board = d.board; registers = d.registers; notice = d.notice })

abbrev pub on_board : Outcome (Unit {0}) Figures → Desk → Obeyed
on_board o d = (plainly o.0, record { books = d.books; roll = d.roll; board = o.1; registers = d.registers; notice = d.notice })

abbrev pub on_registers : Answer × List (Option Readings) → Desk → Obeyed
on_registers o d = (o.0, record { books = d.books; roll = d.roll; board = d.board; registers = o.1; notice = d.notice })

abbrev pub on_books : Outcome ℕ Books → Desk → Obeyed
on_books o d = (numbered o.0, record { books = o.1; roll = d.roll; board = d.board; registers = d.registers; notice = d.notice })

-- the quota of a day and the price of a month, by the notice where one is the source, and else by the board
abbrev pub quota_by : Option (Result Figures Place) → Figures → ℕ → Option ℕ
quota_by None board = quota_on board.quotas
quota_by (Some said) board = quota_on (tells said).quotas

abbrev pub price_by : Option (Result Figures Place) → Figures → ℕ → Option ℕ
price_by None board = price_of board.prices
price_by (Some said) board = price_of (tells said).prices

-- an issue by what a meter means
abbrev pub issue_by : (ℕ → ℕ → Option ℕ) → Supply → Desk → Obeyed
issue_by means s d =
    on_books (issue (asked s (enrolled d.roll s.place) (quota_by d.notice d.board) (price_by d.notice d.board) means) d.books) d

-- the index meter of a reading, or why there is none
abbrev pub index_meter : IndexReading → Result Known Refusal
index_meter r =
    first_refused (index_table r.first r.last r.before r.after) (record { first = r.first; last = r.last; total = r.after - r.before })

-- an issue by an index meter: where it is refused, that is the command's refusal
abbrev pub issue_by_index : Result Known Refusal → Supply → Desk → Obeyed
issue_by_index (Ok k) s d = issue_by (index_kwh k.first k.last k.total) s d
issue_by_index (Err e) s d = (Refused e, d)

-- an issue by a register, where there is one
abbrev pub issue_by_register : Option Readings → Supply → Desk → Obeyed
issue_by_register (Some r) s d = issue_by (register_kwh r) s d
issue_by_register None s d = (Bad, d)

-- an issue by the meter that a line names
abbrev pub issue_with : MeterField → Supply → Desk → Obeyed
issue_with (Index r) s d = issue_by_index (index_meter r) s d
issue_with (ByRegister id) s d = issue_by_register (register_of id d.registers) s d

-- what a command does. New books are for whoever holds the storage, and a notice for whoever holds its text
abbrev pub obeyed : Command → Desk → Obeyed
obeyed (Setup b) d = (Taken, d)
obeyed (Enrol p e a b) d = on_roll (enrol_outcome p (record { percent = e; first = a; last = b }) d.roll) d
obeyed (Quota day q) d = on_board (tell_quota day q d.board) d
obeyed (Price m p) d = on_board (tell_price m p d.board) d
obeyed (Final y q p) d = on_board (tell_final y q p d.board) d
obeyed (Forget y) d = on_board (forget y d.board) d
obeyed Board d = (Taken, by_source None d)
obeyed (Notice n) d = (Taken, d)
obeyed (Register id y) d = on_registers (open_register id y d.registers) d
obeyed (Hour id day h k) d = on_registers (read_register id day h k d.registers) d
obeyed (Issue p a b i m) d = issue_with m (record { place = p; first = a; last = b; issued = i }) d
obeyed (Balance p y) d = (Amount (balance p y d.books.lines), d)
obeyed Lines d = (Number (length d.books.lines), d)
obeyed Intervals d = (Number (length d.books.intervals), d)

-- a notice is answered what its check finds
abbrev pub notice_answer : List ℕ → Answer
notice_answer text = plainly (checked (read_notice text))

-- it is the source from here on, faulty or not
abbrev pub after_notice : List ℕ → Desk → Desk
after_notice text d = by_source (Some (read_notice text)) d
