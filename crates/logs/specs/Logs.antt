-- A log: lines that end with byte 10, each a command, or passed over.
use Rattle.std.specs.Prelude.{ℕ, ◌-◌, Bool, cond, List, [], ◌∷◌, is_some, Some, None, Option, ◌==◌}
use Rattle.text.specs.Pieces.{after, before}
use Rattle.commands.specs.Commands.{command, passed_over}
use Rattle.commands.specs.Vocabularies.{known}
use Rattle.commands.specs.declared.command.Command.{Command}
use Rattle.commands.specs.declared.vocabulary.Vocabulary.{Vocabulary}
use Rattle.logs.specs.declared.log.Entry.{Entry}
use Rattle.logs.specs.declared.log.Entry.TheVariants.{PassedOver, Unreadable, Read}

-- a command that was read, or none
abbrev pub read_as : Option Command → Entry
read_as (Some c) = Read c
read_as None = Unreadable

-- how a line is read: one that lacks its byte 10 is no command, and an empty line or a remark is passed over all the same
abbrev pub entry_of : Vocabulary → List ℕ → Bool → Entry
entry_of v line ended = cond (passed_over line) PassedOver (cond ended (read_as (known v (command line))) Unreadable)

-- the first line of a log that is not empty
abbrev pub entry_at : Vocabulary → List ℕ → Entry
entry_at v log = entry_of v (before 10 log) (is_some (after 10 log))

-- the first lines of a text with the bytes 10 that end them: so many, or all where there are fewer
unfoldable pub first_lines : ℕ → List ℕ → List ℕ
first_lines n [] = []
first_lines n (c ∷ cs) = cond (n == 0) [] (c ∷ first_lines (cond (c == 10) (n - 1) n) cs)
