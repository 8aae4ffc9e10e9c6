use Rattle.meters.specs.Cuts.{covers_told}
use Rattle.meters.proofs.meter.span_laws.Goals as goal

pub returns : goal.returns
returns c = covers_told
