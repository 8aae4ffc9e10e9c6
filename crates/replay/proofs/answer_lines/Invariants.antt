use Rattle.std.proofs.Common.{◌≡◌, ◌≤◌, ◌++◌, length, vec_items}
use Rattle.text.specs.Taken.{text_left}
use Rattle.office.specs.Desk.{desk}
use Rattle.replay.specs.Replaying.{Owes, all_answers, place}
use Rattle.replay.proofs.answer_lines.Given as goal

-- what has gathered, and the answers to what is left, are still to be written
abbrev pub invariant-loop-entry : goal.invariant-loop-entry
invariant-loop-entry g l = record {
  owed : Owes (g.W.Write.contents l.fn.to) (g.W.Write.contents l.to) (vec_items l.out ++ all_answers g.row.IDS l.log.vocabulary (place l.log (desk l.office))) (vec_items l.fn.out ++ all_answers g.row.IDS l.fn.log.vocabulary (place l.fn.log (desk l.fn.office)));
  same : l.log.vocabulary ≡ l.fn.log.vocabulary;
  no_more : length (text_left l.log.lines) ≤ length (text_left l.fn.log.lines);
}

abbrev pub decreases-loop-entry : goal.decreases-loop-entry
decreases-loop-entry g l = length (text_left l.log.lines)
