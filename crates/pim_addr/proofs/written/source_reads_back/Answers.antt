use Rattle.pim_addr.proofs.ReadBack.{source_back}
use Rattle.pim_addr.proofs.written.source_reads_back.Goals as goal

pub returns : goal.returns
returns c = source_back
