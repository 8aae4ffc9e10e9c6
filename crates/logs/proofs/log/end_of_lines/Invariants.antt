use Rattle.std.proofs.Common.{◌≡◌, ◌++◌, take, drop}
use Rattle.logs.specs.Logs.{first_lines}
use Rattle.logs.proofs.log.end_of_lines.Given as goal

-- what was taken, and the lines that are left to take, are the first lines
abbrev pub invariant-loop-i : goal.invariant-loop-i
invariant-loop-i l = take l.i l.text ++ first_lines l.left (drop l.i l.text) ≡ first_lines l.count l.text
