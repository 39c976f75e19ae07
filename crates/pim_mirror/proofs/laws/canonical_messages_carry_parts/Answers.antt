use Rattle.pim_mirror.proofs.Parts.{messages_tell}
use Rattle.pim_mirror.proofs.laws.canonical_messages_carry_parts.Goals as goal

pub returns : goal.returns
returns c = messages_tell
