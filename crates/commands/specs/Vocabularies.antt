-- Which commands a program takes. Assumes nothing.
use Rattle.std.specs.Prelude.{Bool, true, false, cond, Some, None, Option}
use Rattle.commands.specs.declared.command.Command.{Command}
use Rattle.commands.specs.declared.command.Command.TheVariants.{Setup, Enrol, Quota, Price, Final, Forget, Board, Notice, Register, Hour, Issue, Balance, Lines, Intervals}
use Rattle.commands.specs.declared.command.MeterField.{MeterField}
use Rattle.commands.specs.declared.command.MeterField.TheVariants.{Index, Register as ByRegister}
use Rattle.commands.specs.declared.vocabulary.Vocabulary.{Vocabulary}
use Rattle.commands.specs.declared.vocabulary.Vocabulary.TheVariants.{Billing, Whole}

-- the meter is one with two indexes
abbrev pub by_indexes : MeterField → Bool
by_indexes (Index r) = true
by_indexes (ByRegister id) = false

-- the commands that bill from a board of quotas and prices, by index meters
abbrev pub is_billing : Command → Bool
is_billing (Setup b) = true
is_billing (Enrol p e a b) = true
is_billing (Quota day q) = true
is_billing (Price m p) = true
is_billing (Final y q p) = false
is_billing (Forget y) = false
is_billing Board = false
is_billing (Notice n) = false
is_billing (Register id y) = false
is_billing (Hour id day h k) = false
is_billing (Issue p a b i m) = by_indexes m
is_billing (Balance p y) = true
is_billing Lines = true
is_billing Intervals = true

-- the vocabulary has the command
abbrev pub knows : Vocabulary → Command → Bool
knows Billing c = is_billing c
knows Whole c = true

-- a command, where the vocabulary has it
abbrev pub known : Vocabulary → Option Command → Option Command
known v (Some c) = cond (knows v c) (Some c) None
known v None = None
