use Rattle.std.proofs.Common.{◌++◌, ℕ, List, [], vec_items, sym, ap, ◌∙◌, arith}
use Rattle.office.specs.Desk.{desk}
use Rattle.replay.specs.Replaying.{all_answers, place}
use Rattle.replay.proofs.Replays.{entry_passed, entry_set_up, leaves_less, nothing_left, owes_less, owes_written}
use Rattle.replay.proofs.answer_lines.Goals as goal

pub loop-entry-preserved : goal.loop-entry-preserved
loop-entry-preserved g c =
    let less = leaves_less g.row.IDS c.in-Some.entry (place c.next_entry.new.self (desk c.loop-entry.office)) _ _ _ c.in_ok-next.ensures.told in
    record {
      owed = owes_less _ _ _ _ (vec_items c.answer_entry.new.out) _ _
          (entry_passed g.row.IDS c.loop-entry.log c.next_entry.new.self c.answer_entry.new.log (desk c.loop-entry.office) (desk c.answer_entry.new.office) c.in-Some.entry c.in_ok-next.field-0 _ _ (vec_items c.loop-entry.out) (vec_items c.answer_entry.new.out) _ c.in_default-2.is c.in-Some.ensures.value c.in-Some.ensures.rest c.in-Some.ensures.line c.in-Some.ensures.same c.in_ok-next.ensures.same c.in_ok-next.ensures.told c.loop-entry.invariant.owed)
          c.in_ok-flush_block.ensures.owed;
      same = c.in_ok-next.ensures.same ∙ c.in-Some.ensures.same ∙ c.loop-entry.invariant.same;
      no_more = omega (arith, c.in-Some.ensures.shorter);
    }

pub returns-in-Some-2-clause-written : goal.returns-in-Some-2-clause-written
returns-in-Some-2-clause-written g c =
    owes_written _ _ _ (vec_items c.answer_entry.new.out) _ _
    (entry_set_up g.row.IDS c.loop-entry.log c.next_entry.new.self c.answer_entry.new.log (desk c.loop-entry.office) (desk c.answer_entry.new.office) c.in-Some.entry c.in_ok-next.field-0 c.in-Some-2.next _ _ (vec_items c.loop-entry.out) (vec_items c.answer_entry.new.out) _ c.in-Some-2.is c.in-Some.ensures.value c.in-Some.ensures.rest c.in-Some.ensures.line c.in-Some.ensures.same c.in_ok-next.ensures.same c.in_ok-next.ensures.told c.loop-entry.invariant.owed)
    c.in_ok-flush.ensures.written

pub returns-clause-written : goal.returns-clause-written
returns-clause-written g c =
    owes_written _ _ _ (vec_items c.loop-entry.out) [] _
    (nothing_left g.row.IDS c.loop-entry.log (desk c.loop-entry.office) _ _ (vec_items c.loop-entry.out) _ c.in_default.ensures.value c.loop-entry.invariant.owed)
    c.in_ok-flush-2.ensures.written
