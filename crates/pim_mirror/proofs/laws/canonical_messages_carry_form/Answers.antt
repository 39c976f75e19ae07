use Rattle.pim_mirror.proofs.ReadBack.{tell_form}
use Rattle.pim_mirror.proofs.laws.canonical_messages_carry_form.Goals as goal

pub returns : goal.returns
returns c = tell_form c.canonical_messages_carry_parts.ensures c.parts_have_units_once.ensures c.messages_are_read.ensures
