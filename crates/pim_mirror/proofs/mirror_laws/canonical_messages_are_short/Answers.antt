use Rattle.pim_mirror.proofs.ShortMessages.{messages_are_short}
use Rattle.pim_mirror.proofs.mirror_laws.canonical_messages_are_short.Goals as goal

pub returns : goal.returns
returns c = messages_are_short c.size_is_length.ensures c.canonical_messages_carry_parts.ensures
