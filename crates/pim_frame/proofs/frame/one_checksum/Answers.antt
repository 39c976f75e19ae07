use Rattle.pim_frame.proofs.Seals.{one_seal}
use Rattle.pim_frame.proofs.frame.one_checksum.Goals as goal

pub returns : goal.returns
returns c = one_seal
