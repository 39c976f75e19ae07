use Rattle.pim_mirror.proofs.Packets.{read_heard}
use Rattle.pim_mirror.proofs.laws.read_packet_is_heard.Goals as goal

pub returns : goal.returns
returns c = read_heard
