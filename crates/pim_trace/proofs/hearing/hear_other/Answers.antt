use Rattle.pim_trace.proofs.Words.{◌∙◌, Ok, Err, ap, reading_seen, packet_read, ledger_seen, packet_in, IsNoHello}
use Rattle.pim_trace.proofs.Words.{hello_in, message_in}
use Rattle.pim_trace.proofs.Hearings.{other_unapplied, other_told}
use Rattle.pim_trace.proofs.hearing.hear_other.Goals as goal

pub returns-in-Ok-clause-reported : goal.returns-in-Ok-clause-reported
returns-in-Ok-clause-reported g c =
    let bytes_of = g.F.Family.bytes_of in
    let packet = packet_in bytes_of c.args.packet.now in
    let message = message_in (reading_seen g.F.Family.family c.args.message) in
    let read : IsNoHello message (packet_read g.F.Family.family packet) = (ap hello_in c.requires.read ∙ c.requires.none, ap message_in c.requires.read) in
    other_told g.F.Family.family c.args.packet.now.frame packet (ledger_seen bytes_of c.args.ledger.now) c.args.router.now (g.T.EventWriter.line c.args.event_writer.now)
    message read (other_unapplied g.F.Family.family packet c.args.router.now message read c.requires.other)
    (Ok tt) c.judge.new.router (g.T.EventWriter.contents c.args.device.now) (g.T.EventWriter.contents c.judge.new.device) c.in-Ok.ensures.router c.in-Ok.ensures.bytes

pub returns-in-Err-clause-reported : goal.returns-in-Err-clause-reported
returns-in-Err-clause-reported g c =
    let bytes_of = g.F.Family.bytes_of in
    let packet = packet_in bytes_of c.args.packet.now in
    let message = message_in (reading_seen g.F.Family.family c.args.message) in
    let read : IsNoHello message (packet_read g.F.Family.family packet) = (ap hello_in c.requires.read ∙ c.requires.none, ap message_in c.requires.read) in
    other_told g.F.Family.family c.args.packet.now.frame packet (ledger_seen bytes_of c.args.ledger.now) c.args.router.now (g.T.EventWriter.line c.args.event_writer.now)
    message read (other_unapplied g.F.Family.family packet c.args.router.now message read c.requires.other)
    (Err c.in-Err.fault) c.judge.new.router (g.T.EventWriter.contents c.args.device.now) (g.T.EventWriter.contents c.judge.new.device) tt c.in-Err.ensures.bytes
