use Rattle.std.proofs.Common.{◌≡◌, rules}
use Rattle.logs.proofs.Taking.{byte_more, lines_all, lines_none}
use Rattle.logs.proofs.log.end_of_lines.Goals as goal

pub returns-then-left-eq0 : goal.returns-then-left-eq0
returns-then-left-eq0 c =
    let none : c.loop-i.left ≡ 0 = search rules in
    record {
      within = search rules;
      front = lines_none c.args.text.now _ c.loop-i.i c.loop-i.left none c.loop-i.invariant;
    }

pub loop-i-preserved : goal.loop-i-preserved
loop-i-preserved c = byte_more c.args.text.now _ c.loop-i.i c.loop-i.left c.left_behind-left.result (search rules) (search rules) c.left_behind-left.ensures c.loop-i.invariant

pub returns : goal.returns
returns c = record {
  within = search rules;
  front = lines_all c.args.text.now _ c.loop-i.i c.loop-i.left (search rules) c.loop-i.invariant;
}
