use Rattle.std.proofs.Common.{length}
use Rattle.text.specs.Taken.{text_left}
use Rattle.commands.specs.Commands.{usual}
use Rattle.replay.specs.Replaying.{Owes, all_answers, begun, place}
use Rattle.replay.proofs.answer_log.Given as goal

-- the answers to what is left, from the books that begin, are still to be written
abbrev pub invariant-loop-next : goal.invariant-loop-next
invariant-loop-next g l = Owes (g.W.Write.contents l.fn.to) (g.W.Write.contents l.to) (all_answers g.row.IDS l.log.vocabulary (place l.log (begun g.row.IDS l.begin))) (all_answers g.row.IDS l.fn.log.vocabulary (place l.fn.log (begun g.row.IDS usual)))

abbrev pub decreases-loop-next : goal.decreases-loop-next
decreases-loop-next g l = length (text_left l.log.lines)
