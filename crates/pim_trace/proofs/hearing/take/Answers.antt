use Rattle.pim_trace.proofs.Words.{reading_seen, read_causes, read_received, packet_in}
use Rattle.pim_trace.proofs.Verdicts.{received_ok, received_moment}
use Rattle.pim_trace.proofs.hearing.take.Goals as goal

pub returns-clause-reported : goal.returns-clause-reported
returns-clause-reported g c =
    let family = g.F.Family.family in
    let packet = packet_in g.F.Family.bytes_of c.args.packet.now in
    received_ok family packet c.args.router.now (c.packet_is_taken_as_read.ensures family packet c.args.router.now) (reading_seen family c.args.message.now) c.requires.read
    c.take_read.result c.take_read.new.self c.take_read.ensures.reported

pub returns-clause-moment : goal.returns-clause-moment
returns-clause-moment g c =
    let family = g.F.Family.family in
    let packet = packet_in g.F.Family.bytes_of c.args.packet.now in
    let reading = reading_seen family c.args.message.now in
    received_moment family packet (read_causes family packet.port packet.source c.args.router.now reading) (read_received family packet.port packet.source c.args.router.now reading) c.args.router.now c.take_read.new.self
    c.take_read.result c.take_read.ensures.reported
    (received_ok family packet c.args.router.now (c.packet_is_taken_as_read.ensures family packet c.args.router.now) reading c.requires.read c.take_read.result c.take_read.new.self c.take_read.ensures.reported)
