use Rattle.pim_mirror.proofs.Packets.{packet_heard}
use Rattle.pim_mirror.proofs.laws.canonical_packet_is_heard.Goals as goal

pub returns : goal.returns
returns c = packet_heard c.canonical_messages_carry_parts.ensures c.messages_are_read.ensures c.read_packet_is_heard.ensures
