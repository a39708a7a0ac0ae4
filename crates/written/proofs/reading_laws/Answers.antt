use Rattle.written.proofs.Read.{reads_back, no_leading_zero}
use Rattle.written.proofs.reading_laws.Goals as goal

pub returns : goal.returns
returns c = record { back = reads_back; plain = no_leading_zero }
