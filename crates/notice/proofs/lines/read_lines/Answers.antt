use Rattle.std.proofs.Common.{◌+◌, ◌≤◌, length, sym, ◌∙◌, subst, arith, rules}
use Rattle.std.specs.Iterator.Adapters.{enumerate_count, enumerate_source}
use Rattle.text.specs.Taken.{lines_left}
use Rattle.notice.proofs.Cutting.{told_le}
use Rattle.notice_text.specs.declared.entry.Dates.{Dates}
use Rattle.notice_text.specs.Lines.{Follows}
use Rattle.notice_text.proofs.Inverting.{line_follows}
use Rattle.notice.proofs.lines.read_lines.Goals as goal

pub keep-requires : goal.keep-requires
keep-requires c =
    let line = c.in-Some.line in
    let follows = line_follows line.ended c.last_dates.result line.text.now c.in-Ok.entry (sym c.read_line.ensures ∙ c.in-Ok.is) in
    subst (λ (last : Dates). Follows last c.in-Ok.entry) c.last_dates.ensures follows

pub loop-before-init-derived : goal.loop-before-init-derived
loop-before-init-derived c =
    let s = c.into_iter-before-iterator.result in
    let fits : enumerate_count s + length (lines_left (enumerate_source s)) ≤ 65536 = grind (arith, told_le) in
    search rules
