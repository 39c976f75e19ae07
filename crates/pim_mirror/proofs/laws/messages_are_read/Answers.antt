use Rattle.pim_mirror.proofs.ReadBack.{messages_are_read}
use Rattle.pim_mirror.proofs.laws.messages_are_read.Goals as goal

pub returns : goal.returns
returns c = messages_are_read c.sealed_message_is_read.ensures
