use Rattle.pim_change.proofs.SomeMessages.{messages_unless_too_big}
use Rattle.pim_change.proofs.laws.change_has_messages_unless_too_big.Goals as goal

pub returns : goal.returns
returns c = messages_unless_too_big c.some_message_is_sealed.ensures c.units_pack_if_each_fits.ensures
