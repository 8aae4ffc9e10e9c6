use Rattle.std.proofs.Common.{◌≡◌, ◌+◌, ◌≤◌, length}
use Rattle.std.specs.Iterator.Adapters.{enumerate_count, enumerate_source}
use Rattle.text.specs.Taken.{lines_left}
use Rattle.sources.specs.Board.{nothing}
use Rattle.notice.specs.Notices.{figures, pieces, read_lines}
use Rattle.notice.proofs.Cutting.{read_told}
use Rattle.notice.proofs.lines.read_lines.Given as goal

abbrev pub invariant-loop-before : goal.invariant-loop-before
invariant-loop-before l =
    let left = lines_left (enumerate_source l.before-iterator) in
    let count = enumerate_count l.before-iterator in
    record { reads : read_told (count + 1) (figures l.tables) left ≡ read_lines 1 nothing (pieces l.text); fits : count + length left ≤ 65536 }
