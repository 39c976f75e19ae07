use Rattle.pim_router.proofs.AsRead.{taken_as_read}
use Rattle.pim_router.proofs.laws.packet_is_taken_as_read.Goals as goal

pub returns : goal.returns
returns c = taken_as_read
