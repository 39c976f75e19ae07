use Rattle.pim_change.proofs.ReadBack.{change_is_read}
use Rattle.pim_change.proofs.laws.change_is_read.Goals as goal

pub returns : goal.returns
returns c = change_is_read c.sealed_message_is_read.ensures
