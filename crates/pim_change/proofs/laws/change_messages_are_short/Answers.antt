use Rattle.pim_change.proofs.ReadBack.{change_is_short}
use Rattle.pim_change.proofs.laws.change_messages_are_short.Goals as goal

pub returns : goal.returns
returns c = change_is_short c.canonical_has_its_length.ensures
