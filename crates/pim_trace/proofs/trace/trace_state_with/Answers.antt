use Rattle.pim_trace.proofs.Words.{inl, inr, ledger_seen}
use Rattle.std.proofs.lemmas.Result.{err_from_is_err_and}
use Rattle.pim_trace.proofs.Ending.{run_ends_state, state_written, state_failed, state_refused}
use Rattle.pim_trace.proofs.trace.trace_state_with.Goals as goal

pub returns-in_err-run_to_end-clause-events : goal.returns-in_err-run_to_end-clause-events
returns-in_err-run_to_end-clause-events g c =
    let p = err_from_is_err_and c.from_residual.result c.from_residual.ensures.1 in
    rw (p.1, p.2)
    (run_ends_state (g.T.EventWriter.line c.args.event_writer.now) g.F.Family.family c.args.end c.args.merge.now
    c.args.router.now (g.T.EventWriter.contents c.args.device.now)
    c.run_to_end.new.merge (ledger_seen g.F.Family.bytes_of c.run_to_end.new.ledger) c.run_to_end.new.router
    c.run_to_end.new.router (g.T.EventWriter.contents c.run_to_end.new.device) c.in_err-run_to_end.field-0.0
    c.in_err-run_to_end.ensures.reported c.run_to_end.ensures.tallied)

pub returns-in-Ok-clause-events : goal.returns-in-Ok-clause-events
returns-in-Ok-clause-events g c = (
  state_written (g.T.EventWriter.line c.args.event_writer.now) g.F.Family.family c.args.end c.args.merge.now
      c.args.router.now (g.T.EventWriter.contents c.args.device.now)
      (ledger_seen g.F.Family.bytes_of c.run_to_end.new.ledger) c.run_to_end.new.router
      (g.T.EventWriter.contents c.run_to_end.new.device) (g.T.EventWriter.contents c.write_state_and_end.new.device)
      c.in_ok-run_to_end.ensures.reported.0 c.in-Ok.ensures.reported,
  c.in_ok-run_to_end.ensures.reported.1,
)

pub returns-in-Err-Output-clause-events : goal.returns-in-Err-Output-clause-events
returns-in-Err-Output-clause-events g c = (
  inr (state_failed (g.T.EventWriter.line c.args.event_writer.now) g.F.Family.family c.args.end c.args.merge.now
      c.args.router.now (g.T.EventWriter.contents c.args.device.now)
      (ledger_seen g.F.Family.bytes_of c.run_to_end.new.ledger) c.run_to_end.new.router
      (g.T.EventWriter.contents c.run_to_end.new.device) (g.T.EventWriter.contents c.write_state_and_end.new.device)
      c.in_ok-run_to_end.ensures.reported.0 c.in-Err-Output.field-0 c.in-Err-Output.field-0-is c.in-Err-Output.ensures.reported),
  c.run_to_end.ensures.tallied,
)

pub returns-in-Err-Memory-clause-events : goal.returns-in-Err-Memory-clause-events
returns-in-Err-Memory-clause-events g c = (
  inl (state_refused (g.T.EventWriter.line c.args.event_writer.now) g.F.Family.family c.args.end c.args.merge.now
      c.args.router.now (g.T.EventWriter.contents c.args.device.now)
      (ledger_seen g.F.Family.bytes_of c.run_to_end.new.ledger) c.run_to_end.new.router
      (g.T.EventWriter.contents c.run_to_end.new.device) (g.T.EventWriter.contents c.write_state_and_end.new.device)
      c.in_ok-run_to_end.ensures.reported.0 c.in-Err-Memory.field-0 c.in-Err-Memory.field-0-is c.in-Err-Memory.ensures.reported),
  c.run_to_end.ensures.tallied,
)
