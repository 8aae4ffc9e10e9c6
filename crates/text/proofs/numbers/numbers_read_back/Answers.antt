use Rattle.text.proofs.Reading.{reads_back, reads_only-written}
use Rattle.text.proofs.numbers.numbers_read_back.Goals as goal

pub returns : goal.returns
returns c = record { back = reads_back; only = reads_only-written }
