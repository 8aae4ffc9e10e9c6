-- What a whole log is answered.
use Rattle.std.specs.Prelude.{◌≡◌, ℕ, zero, suc, ◌+◌, ◌-◌, ◌^◌, min, cond, List, [], ◌++◌, length, drop, Option, None, Some, nat_eq}
use Rattle.text.specs.Taken.{after_line, text_left}
use Rattle.commands.specs.Commands.{usual}
use Rattle.commands.specs.declared.command.Beginning.{Beginning}
use Rattle.commands.specs.declared.command.Command.{Command}
use Rattle.commands.specs.declared.command.Command.TheVariants.{Setup, Notice}
use Rattle.commands.specs.declared.vocabulary.Vocabulary.{Vocabulary}
use Rattle.commands.specs.declared.vocabulary.Vocabulary.TheVariants.{Billing, Whole}
use Rattle.logs.specs.Logs.{entry_at, first_lines}
use Rattle.logs.specs.declared.log.Entry.{Entry}
use Rattle.logs.specs.declared.log.Entry.TheVariants.{PassedOver, Unreadable, Read}
use Rattle.logs.specs.declared.log.Log.{Log}
use Rattle.rules.specs.Books.{setup}
use Rattle.answers.specs.Answers.{answer_text, end_text}
use Rattle.answers.specs.declared.answer.Answer.TheVariants.{Taken, Bad}
use Rattle.office.specs.Desk.{Desk, after_notice, new_desk, notice_answer, obeyed}
use Rattle.desk.specs.Desk.{response}

-- how far a log has come: the text that is left, how many lines were taken, and the desk
pub record Place : Type 0 where
  pub left : List ℕ
  pub line : ℕ
  pub desk : Desk

-- what is written for a line, and how far the log has come then
abbrev pub Answered : Type 0
Answered = List ℕ × Place

-- the desk of an office with registers for so many IDs, as a setup begins it
abbrev pub begun : ℕ → Beginning → Desk
begun ids b = new_desk ids (setup b.intervals b.lines b.year b.line)

-- so many lines more were taken
abbrev pub counted : ℕ → ℕ → ℕ
counted n line = min (line + n) (2 ^ 64 - 1)

-- the answer to a notice, which is the text of the next lines, so many or all that are left
abbrev pub by_notice : List ℕ → ℕ → Place → Answered
by_notice text n p =
    (answer_text p.line (notice_answer text), record { left = drop (length text) p.left; line = counted n p.line; desk = after_notice text p.desk })

-- the answer to a command in the line that was taken last: a setup begins anew, and what is written for the others says `response`
abbrev pub by_command : ℕ → Command → Place → Answered
by_command ids (Setup b) p = (answer_text p.line Taken, record { left = p.left; line = p.line; desk = begun ids b })
by_command ids (Notice n) p = by_notice (first_lines n p.left) n p
by_command ids c p = (response p.line c (obeyed c p.desk), record { left = p.left; line = p.line; desk = (obeyed c p.desk).1 })

-- the answer to a line: none where it is passed over, and `bad` where it is no command
abbrev pub by_entry : ℕ → Entry → Place → Answered
by_entry ids PassedOver p = ([], p)
by_entry ids Unreadable p = (answer_text p.line Bad, p)
by_entry ids (Read c) p = by_command ids c p

-- the next line is taken
abbrev pub line_taken : Place → Place
line_taken p = record { left = after_line p.left; line = counted 1 p.line; desk = p.desk }

-- the next line is taken and answered
abbrev pub next_answered : ℕ → Vocabulary → Place → Answered
next_answered ids v p = by_entry ids (entry_at v p.left) (line_taken p)

-- the answers to what is left, line by line; there are no more lines than bytes
unfoldable pub answers : ℕ → Vocabulary → ℕ → Place → List ℕ
answers ids v zero p = []
answers ids v (suc lines) p =
    cond (nat_eq (length p.left) 0) [] ((next_answered ids v p).0 ++ answers ids v lines (next_answered ids v p).1)

-- the same, for all of it
abbrev pub all_answers : ℕ → Vocabulary → Place → List ℕ
all_answers ids v p = answers ids v (length p.left) p

-- how many IDs the lines of a vocabulary may name a register by: billing has none
abbrev pub register_ids : Vocabulary → ℕ
register_ids Billing = 0
register_ids Whole = 16

-- a whole log, answered from the usual books on: every answer, and the line behind the last
abbrev pub replayed : Vocabulary → List ℕ → List ℕ
replayed v log = all_answers (register_ids v) v (record { left = log; line = 0; desk = begun (register_ids v) usual }) ++ end_text 0

-- where a log and its desk stand
abbrev pub place : Log → Desk → Place
place log d = record { left = text_left log.lines; line = log.line; desk = d }

-- the desk that a log goes on with: that of the books at hand, or one that a setup began
abbrev pub desk_after : ℕ → Option Beginning → Desk → Desk
desk_after ids None d = d
desk_after ids (Some b) d = begun ids b

-- what an answer leaves: its text behind what was there, and the place where the log goes on
abbrev pub Leaves : Answered → (was now : List ℕ) → Place → Type 0
Leaves a was now p = (now ≡ was ++ a.0) × (p ≡ a.1)

-- what is still to be written: of the log, where a setup begins new books, and else nothing
abbrev pub to_write : ℕ → Option Beginning → Log → List ℕ
to_write ids None log = []
to_write ids (Some b) log = all_answers ids log.vocabulary (place log (begun ids b))

-- a writer's known bytes and what is still to be written are its known bytes of before and all that was to be written
abbrev pub Owes : (was now : Option (List ℕ)) → (rest all : List ℕ) → Type 0
Owes None now rest all = Unit {0}
Owes (Some xs) None rest all = ⊥
Owes (Some xs) (Some ys) rest all = ys ++ rest ≡ xs ++ all
