use Rattle.pim_trace.proofs.Words.{◌∙◌, ap, sym, event_seen, content_seen, ledger_seen}
use Rattle.pim_trace.proofs.TakenTurn.{content_tells, rest_tells}
use Rattle.pim_trace.proofs.turns.take_record.Goals as goal

pub returns-in-Datagram-clause-reported : goal.returns-in-Datagram-clause-reported
returns-in-Datagram-clause-reported g c =
    content_tells (g.T.EventWriter.line c.args.event_writer.now) g.F.Family.family c.args.turn.now.capture c.frame-frame.result _ (ledger_seen g.F.Family.bytes_of c.args.ledger.now) c.args.router.now
    c.frame-frame.ensures (event_seen c.args.bytes.now c.args.turn.now.event) (sym (ap (content_seen g.F.Family.bytes_of) c.in-Datagram.is) ∙ c.content.ensures.content)
    (ledger_seen g.F.Family.bytes_of c.hear_packet.new.ledger) c.hear_packet.new.router (g.T.EventWriter.contents c.args.device.now) (g.T.EventWriter.contents c.hear_packet.new.device) c.hear_packet.result c.hear_packet.ensures.reported

pub returns-in-OtherFamily-clause-reported : goal.returns-in-OtherFamily-clause-reported
returns-in-OtherFamily-clause-reported g c =
    content_tells (g.T.EventWriter.line c.args.event_writer.now) g.F.Family.family c.args.turn.now.capture c.frame-frame.result _ (ledger_seen g.F.Family.bytes_of c.args.ledger.now) c.args.router.now
    c.frame-frame.ensures (event_seen c.args.bytes.now c.args.turn.now.event) (sym (ap (content_seen g.F.Family.bytes_of) c.in-OtherFamily.is) ∙ c.content.ensures.content)
    (ledger_seen g.F.Family.bytes_of c.skip.new.ledger) c.args.router.now (g.T.EventWriter.contents c.args.device.now) (g.T.EventWriter.contents c.skip.new.device) c.skip.result c.skip.ensures.reported

pub returns-in-Skipped-clause-reported : goal.returns-in-Skipped-clause-reported
returns-in-Skipped-clause-reported g c =
    content_tells (g.T.EventWriter.line c.args.event_writer.now) g.F.Family.family c.args.turn.now.capture c.frame-frame.result _ (ledger_seen g.F.Family.bytes_of c.args.ledger.now) c.args.router.now
    c.frame-frame.ensures (event_seen c.args.bytes.now c.args.turn.now.event) (sym (ap (content_seen g.F.Family.bytes_of) c.in-Skipped.is) ∙ c.content.ensures.content)
    (ledger_seen g.F.Family.bytes_of c.skip-in-Skipped.new.ledger) c.args.router.now (g.T.EventWriter.contents c.args.device.now) (g.T.EventWriter.contents c.skip-in-Skipped.new.device) c.skip-in-Skipped.result c.skip-in-Skipped.ensures.reported

pub returns-in-End-clause-reported : goal.returns-in-End-clause-reported
returns-in-End-clause-reported g c =
    rest_tells (g.T.EventWriter.line c.args.event_writer.now) g.F.Family.family c.args.turn.now.capture (ledger_seen g.F.Family.bytes_of c.args.ledger.now) c.args.router.now
    (event_seen c.args.bytes.now c.args.turn.now.event) (sym (ap (content_seen g.F.Family.bytes_of) c.in-End.is) ∙ c.content.ensures.content) (g.T.EventWriter.contents c.args.device.now)
