use Rattle.std.proofs.Common.{take}
use Rattle.std.specs.Fmt.{HasWritten, IsPlainFormatter}
use Rattle.std.specs.List.{flat_map}
use Rattle.text.specs.Pieces.{led}
use Rattle.answers.specs.Answers.{part_fields}
use Rattle.answers.proofs.shown.PartFieldsDisplay.fmt.Given as goal

abbrev pub invariant-loop-part : goal.invariant-loop-part
invariant-loop-part g l =
    IsPlainFormatter l.initial.f → HasWritten g.W.Write.write_str_gives l.initial.f (led 44 (flat_map part_fields (take l.part-index l.part-items))) l.f
