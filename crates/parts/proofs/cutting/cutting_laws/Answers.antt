use Rattle.std.proofs.Common.{add-one}
use Rattle.parts.proofs.Parting.{parted}
use Rattle.parts.proofs.cutting.cutting_laws.Goals as goal

pub returns : goal.returns
returns c = λ quota percent first n. rw add-one (parted quota percent first n)
