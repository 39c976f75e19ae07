use Rattle.pim_frame.proofs.Seals.{some_seal}
use Rattle.pim_frame.proofs.frame.some_message_is_sealed.Goals as goal

pub returns : goal.returns
returns c = some_seal
