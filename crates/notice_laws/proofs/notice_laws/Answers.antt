use Rattle.notice_laws.proofs.Unended.{unended}
use Rattle.notice_laws.proofs.Whole.{reads, reads_only, refuses}
use Rattle.notice_laws.proofs.notice_laws.Goals as goal

pub returns : goal.returns
returns c = record { reads = reads; reads_only = reads_only; refuses = refuses; unended = unended }
