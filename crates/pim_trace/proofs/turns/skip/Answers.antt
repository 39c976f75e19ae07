use Rattle.pim_trace.specs.Kept.{ledger_seen}
use Rattle.pim_trace.proofs.TakenTurn.{skip_begun, skip_told}
use Rattle.pim_trace.proofs.turns.skip.Goals as goal

pub returns-in_default-clause-reported : goal.returns-in_default-clause-reported
returns-in_default-clause-reported g c =
    skip_begun (g.T.EventWriter.line c.args.event_writer.now) c.args.port c.args.skipped (ledger_seen g.F.Family.bytes_of c.args.ledger.now) c.args.router.now c.now.result c.now.ensures
    (g.T.EventWriter.contents c.args.device.now) (g.T.EventWriter.contents c.write_on.new.device) c.in_default.ensures.bytes

pub returns-clause-reported : goal.returns-clause-reported
returns-clause-reported g c =
    skip_told (g.T.EventWriter.line c.args.event_writer.now) c.args.port c.args.skipped (ledger_seen g.F.Family.bytes_of c.args.ledger.now) c.args.router.now c.now.result c.now.ensures
    (ledger_seen g.F.Family.bytes_of c.skip.new.self) c.skip.ensures (g.T.EventWriter.contents c.args.device.now) (g.T.EventWriter.contents c.write_on.new.device) c.in-Ok.ensures.bytes
