-- What is written for a command.
use Rattle.std.specs.Prelude.{ℕ, List, [], ◌++◌}
use Rattle.std.specs.List.{flat_map}
use Rattle.rules.specs.Books.{Books}
use Rattle.answers.specs.Answers.{answer_text, interval_text, line_text}
use Rattle.commands.specs.declared.command.Command.{Command}
use Rattle.commands.specs.declared.command.Command.TheVariants.{Setup, Enrol, Quota, Price, Final, Forget, Board, Notice, Register, Hour, Issue, Balance, Lines, Intervals}
use Rattle.office.specs.Desk.{Obeyed}

-- the records that follow the answer to `lines` and to `intervals`
abbrev pub records_text : Command → Books → List ℕ
records_text (Setup b) j = []
records_text (Enrol p e a b) j = []
records_text (Quota day q) j = []
records_text (Price m p) j = []
records_text (Final y q p) j = []
records_text (Forget y) j = []
records_text Board j = []
records_text (Notice n) j = []
records_text (Register id y) j = []
records_text (Hour id day h k) j = []
records_text (Issue p a b i m) j = []
records_text (Balance p y) j = []
records_text Lines j = flat_map line_text j.lines
records_text Intervals j = flat_map interval_text j.intervals

-- all that is written for the command in a line of the log, given its answer and the desk after it
abbrev pub response : ℕ → Command → Obeyed → List ℕ
response line c o = answer_text line o.0 ++ records_text c o.1.books
