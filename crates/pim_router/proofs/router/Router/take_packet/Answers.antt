use Rattle.pim_router.proofs.Words.{reading_seen, packet_seen}
use Rattle.pim_router.proofs.AsRead.{as_packet, packet_wants}
use Rattle.pim_router.proofs.router.Router.take_packet.Goals as goal

pub returns-clause-reported : goal.returns-clause-reported
returns-clause-reported g c =
    let packet = packet_seen g.F.Family.bytes_of c.args.port c.args.src c.args.dst c.args.bytes.now in
    as_packet g.F.Family.family packet c.args.self.now (c.packet_is_taken_as_read.ensures g.F.Family.family packet c.args.self.now)
    (reading_seen g.F.Family.family c.read_message.result) c.read_message.ensures c.take_read.result c.take_read.new.self c.take_read.ensures.reported

pub returns-clause-memory : goal.returns-clause-memory
returns-clause-memory g c =
    let packet = packet_seen g.F.Family.bytes_of c.args.port c.args.src c.args.dst c.args.bytes.now in
    packet_wants g.F.Family.family packet c.args.self.now (c.packet_is_taken_as_read.ensures g.F.Family.family packet c.args.self.now)
    (reading_seen g.F.Family.family c.read_message.result) c.read_message.ensures c.take_read.result c.take_read.ensures.memory
