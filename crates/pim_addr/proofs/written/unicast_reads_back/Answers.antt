use Rattle.pim_addr.proofs.ReadBack.{unicast_back}
use Rattle.pim_addr.proofs.written.unicast_reads_back.Goals as goal

pub returns : goal.returns
returns c = unicast_back
