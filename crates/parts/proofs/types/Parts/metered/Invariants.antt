use Rattle.std.proofs.Common.{◌≡◌, ◌++◌, map, take, drop}
use Rattle.parts.specs.Metering.{part_by}
use Rattle.parts.proofs.types.Parts.metered.Given as goal

abbrev pub invariant-loop-part : goal.invariant-loop-part
invariant-loop-part g l =
    l.part-items ≡ map (part_by (g.M.Meter.means l.meter)) (take l.part-index l.initial.part-items) ++ drop l.part-index l.initial.part-items
