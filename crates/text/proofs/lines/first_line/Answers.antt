use Rattle.std.proofs.Common.{◌≡◌, length, refl, rules}
use Rattle.text.proofs.Cutting.{line_shortens, no_line, take-line}
use Rattle.text.proofs.lines.first_line.Goals as goal

pub returns-then-is_empty : goal.returns-then-is_empty
returns-then-is_empty c =
    let none : length c.args.text.now ≡ 0 = search rules in
    record { lines = no_line c.args.text.now none; cut = none; shorter = tt }

pub returns : goal.returns
returns c =
    let cut = c.cut_at-cut.result in
    let some : length c.args.text.now ≡ 0 → ⊥ = search rules in
    let took = take-line c.args.text.now cut.front.now cut.rest c.unwrap_or.result _ c.is_some.result some c.cut_at-cut.ensures.front c.cut_at-cut.ensures.rest c.unwrap_or.ensures refl c.is_some.ensures in
    record { lines = took.0; cut = (c.cut_at-cut.ensures.front, took.1, took.2); shorter = rw took.2 (line_shortens c.args.text.now some) }
