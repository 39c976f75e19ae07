use Rattle.pim_addr.proofs.ReadBack.{group_back}
use Rattle.pim_addr.proofs.written.group_reads_back.Goals as goal

pub returns : goal.returns
returns c = group_back
