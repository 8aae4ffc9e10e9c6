use Rattle.std.proofs.Common.{add-one}
use Rattle.parts.proofs.Telling.{cut-tells}
use Rattle.parts.proofs.cutting.telling_laws.Goals as goal

pub returns : goal.returns
returns c = λ quota percent first n told. rw add-one (cut-tells quota percent first n (rw add-one at told))
