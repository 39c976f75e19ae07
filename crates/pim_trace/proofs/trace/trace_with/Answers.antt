use Rattle.pim_trace.proofs.Words.{inr, ledger_seen}
use Rattle.std.proofs.lemmas.Result.{err_from_is_err_and}
use Rattle.pim_trace.proofs.Ending.{run_ends_trace, end_told, end_begun}
use Rattle.pim_trace.proofs.trace.trace_with.Goals as goal

pub returns-in_err-run_to_end-clause-events : goal.returns-in_err-run_to_end-clause-events
returns-in_err-run_to_end-clause-events g c =
    let p = err_from_is_err_and c.from_residual.result c.from_residual.ensures.1 in
    rw (p.1, p.2)
    (run_ends_trace (g.T.EventWriter.line c.args.event_writer.now) g.F.Family.family c.args.end c.args.merge.now
    c.args.router.now (g.T.EventWriter.contents c.args.device.now)
    c.run_to_end.new.merge (ledger_seen g.F.Family.bytes_of c.run_to_end.new.ledger) c.run_to_end.new.router
    c.run_to_end.new.router (g.T.EventWriter.contents c.run_to_end.new.device) c.in_err-run_to_end.field-0.0
    c.in_err-run_to_end.ensures.reported c.run_to_end.ensures.tallied)

pub returns-in_default-clause-events : goal.returns-in_default-clause-events
returns-in_default-clause-events g c = (
  inr (end_begun (g.T.EventWriter.line c.args.event_writer.now) g.F.Family.family c.args.end c.args.merge.now
      c.args.router.now (g.T.EventWriter.contents c.args.device.now)
      (ledger_seen g.F.Family.bytes_of c.run_to_end.new.ledger) c.run_to_end.new.router
      (g.T.EventWriter.contents c.run_to_end.new.device) (g.T.EventWriter.contents c.write_end.new.device)
      c.in_ok-run_to_end.ensures.reported.0 c.in_default.ensures.bytes),
  c.run_to_end.ensures.tallied,
)

pub returns-clause-events : goal.returns-clause-events
returns-clause-events g c = (
  end_told (g.T.EventWriter.line c.args.event_writer.now) g.F.Family.family c.args.end c.args.merge.now c.args.router.now
      (g.T.EventWriter.contents c.args.device.now)
      (ledger_seen g.F.Family.bytes_of c.run_to_end.new.ledger) c.run_to_end.new.router
      (g.T.EventWriter.contents c.run_to_end.new.device) (g.T.EventWriter.contents c.write_end.new.device)
      c.in_ok-run_to_end.ensures.reported.0 c.in-Ok.ensures.bytes,
  c.in_ok-run_to_end.ensures.reported.1,
)
