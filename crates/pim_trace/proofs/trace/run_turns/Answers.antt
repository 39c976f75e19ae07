use Rattle.pim_trace.proofs.Words.{inl, inr, ledger_seen}
use Rattle.pim_trace.proofs.Underway.{new_frames, new_own, has_all, broken_off, stops_at, failed_on_the_way, stopped}
use Rattle.pim_trace.proofs.trace.run_turns.Goals as goal

pub run-requires-clause-ready : goal.run-requires-clause-ready
run-requires-clause-ready g c = (
  new_frames (ledger_seen g.F.Family.bytes_of c.args.ledger.now) c.args.router.now c.requires.new,
  new_own (ledger_seen g.F.Family.bytes_of c.args.ledger.now) c.args.router.now c.requires.new,
)

pub returns-in-Ok-clause-reported : goal.returns-in-Ok-clause-reported
returns-in-Ok-clause-reported g c =
    has_all (ledger_seen g.F.Family.bytes_of) (g.T.EventWriter.line c.args.event_writer.now) g.F.Family.family c.args.end c.args.merge.now c.args.ledger.now c.args.router.now (g.T.EventWriter.contents c.args.device.now) c.requires.new
    c.run.new.merge c.run.new.kept c.run.new.router (g.T.EventWriter.contents c.run.new.device) c.in-Ok.ensures.runs

pub returns-in_default-clause-reported : goal.returns-in_default-clause-reported
returns-in_default-clause-reported g c =
    failed_on_the_way (ledger_seen g.F.Family.bytes_of) (g.T.EventWriter.line c.args.event_writer.now) g.F.Family.family c.args.end c.args.merge.now c.args.ledger.now c.args.router.now (g.T.EventWriter.contents c.args.device.now) c.requires.new
    c.run.new.merge c.in-Err-Capture.fault c.run.new.kept c.run.new.router (g.T.EventWriter.contents c.run.new.device) (g.T.EventWriter.contents c.pass_time.new.device)
    (stops_at (ledger_seen g.F.Family.bytes_of) (g.T.EventWriter.line c.args.event_writer.now) g.F.Family.family c.args.end c.args.merge.now c.args.ledger.now c.args.router.now (g.T.EventWriter.contents c.args.device.now) c.requires.new
    c.run.new.merge c.run.new.kept c.run.new.router (g.T.EventWriter.contents c.run.new.device) c.in-Err-Capture.field-0 c.in-Err-Capture.fault c.in-Err-Capture.field-0-is c.in-Err-Capture.ensures.runs)
    c.now-now.result c.now-now.ensures c.in_default.ensures.reported

pub returns-in-Ok-pass_time-clause-reported : goal.returns-in-Ok-pass_time-clause-reported
returns-in-Ok-pass_time-clause-reported g c =
    stopped (ledger_seen g.F.Family.bytes_of) (g.T.EventWriter.line c.args.event_writer.now) g.F.Family.family c.args.end c.args.merge.now c.args.ledger.now c.args.router.now (g.T.EventWriter.contents c.args.device.now) c.requires.new
    c.run.new.merge c.in-Err-Capture.fault c.run.new.kept c.run.new.router (g.T.EventWriter.contents c.run.new.device) (g.T.EventWriter.contents c.pass_time.new.device)
    (stops_at (ledger_seen g.F.Family.bytes_of) (g.T.EventWriter.line c.args.event_writer.now) g.F.Family.family c.args.end c.args.merge.now c.args.ledger.now c.args.router.now (g.T.EventWriter.contents c.args.device.now) c.requires.new
    c.run.new.merge c.run.new.kept c.run.new.router (g.T.EventWriter.contents c.run.new.device) c.in-Err-Capture.field-0 c.in-Err-Capture.fault c.in-Err-Capture.field-0-is c.in-Err-Capture.ensures.runs)
    c.now-now.result c.now-now.ensures (ledger_seen g.F.Family.bytes_of c.pass_time.new.ledger) c.pass_time.new.router c.in-Ok-pass_time.ensures.reported

pub returns-in-Err-Output-clause-reported : goal.returns-in-Err-Output-clause-reported
returns-in-Err-Output-clause-reported g c =
    broken_off (ledger_seen g.F.Family.bytes_of) (g.T.EventWriter.line c.args.event_writer.now) g.F.Family.family c.args.end c.args.merge.now c.args.ledger.now c.args.router.now (g.T.EventWriter.contents c.args.device.now) c.requires.new
    c.every_state_goes_on.ensures c.run.new.merge c.run.new.kept c.run.new.router (g.T.EventWriter.contents c.run.new.device) c.in-Err-Output.field-0 (inl c.in-Err-Output.field-0-is) c.in-Err-Output.ensures.runs

pub returns-in-Err-Memory-clause-reported : goal.returns-in-Err-Memory-clause-reported
returns-in-Err-Memory-clause-reported g c =
    broken_off (ledger_seen g.F.Family.bytes_of) (g.T.EventWriter.line c.args.event_writer.now) g.F.Family.family c.args.end c.args.merge.now c.args.ledger.now c.args.router.now (g.T.EventWriter.contents c.args.device.now) c.requires.new
    c.every_state_goes_on.ensures c.run.new.merge c.run.new.kept c.run.new.router (g.T.EventWriter.contents c.run.new.device) c.in-Err-Memory.field-0 (inr c.in-Err-Memory.field-0-is) c.in-Err-Memory.ensures.runs
