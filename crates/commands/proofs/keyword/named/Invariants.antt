use Rattle.std.proofs.Common.{◌≡◌, map, drop}
use Rattle.commands.specs.Commands.{named}
use Rattle.commands.proofs.keyword.named.Given as goal

-- the entries from here on decide
abbrev pub invariant-loop-name : goal.invariant-loop-name
invariant-loop-name g l = named (map (λ r. (r.0.now, r.1)) (drop l.name-index l.table)) l.word ≡ named (map (λ r. (r.0.now, r.1)) l.table) l.word
