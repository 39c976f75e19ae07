use Rattle.pim_trace.proofs.Words.{◌∙◌, ap, inr, end_moment, ledger_seen}
use Rattle.std.proofs.lemmas.Result.{err_from_is_err_and}
use Rattle.pim_trace.proofs.Ending.{turns_end_it, counts_all, way_begun, way_written}
use Rattle.pim_trace.proofs.trace.run_to_end.Goals as goal

pub returns-in_err-run_turns-clause-reported : goal.returns-in_err-run_turns-clause-reported
returns-in_err-run_turns-clause-reported g c =
    let p = err_from_is_err_and c.from_residual.result c.from_residual.ensures.1 in
    rw (p.1, p.2)
    (turns_end_it (g.T.EventWriter.line c.args.event_writer.now) g.F.Family.family c.args.end c.args.merge.now
    c.args.router.now (g.T.EventWriter.contents c.args.device.now)
    c.run_turns.new.merge (ledger_seen g.F.Family.bytes_of c.run_turns.new.ledger) c.run_turns.new.router
    (g.T.EventWriter.contents c.run_turns.new.device) c.in_err-run_turns.field-0.0
    c.in_err-run_turns.ensures.reported)

pub returns-in_default-clause-reported : goal.returns-in_default-clause-reported
returns-in_default-clause-reported g c =
    inr (way_begun (g.T.EventWriter.line c.args.event_writer.now) g.F.Family.family c.args.end c.args.merge.now
    c.args.router.now (g.T.EventWriter.contents c.args.device.now)
    c.run_turns.new.merge (ledger_seen g.F.Family.bytes_of c.run_turns.new.ledger) c.run_turns.new.router
    (g.T.EventWriter.contents c.run_turns.new.device) c.in_ok-run_turns.ensures.reported
    c.end_moment-moment.result (c.end_moment-moment.ensures.moment
    ∙ ap (end_moment c.args.end c.run_turns.new.merge.clock) c.now.ensures)
    (g.T.EventWriter.contents c.pass_time.new.device) c.in_default.ensures.reported)

pub returns-clause-reported : goal.returns-clause-reported
returns-clause-reported g c = (
  way_written (g.T.EventWriter.line c.args.event_writer.now) g.F.Family.family c.args.end c.args.merge.now c.args.router.now
      (g.T.EventWriter.contents c.args.device.now)
      c.run_turns.new.merge (ledger_seen g.F.Family.bytes_of c.run_turns.new.ledger) c.run_turns.new.router
      (g.T.EventWriter.contents c.run_turns.new.device) c.in_ok-run_turns.ensures.reported
      c.end_moment-moment.result (c.end_moment-moment.ensures.moment
      ∙ ap (end_moment c.args.end c.run_turns.new.merge.clock) c.now.ensures)
      (ledger_seen g.F.Family.bytes_of c.pass_time.new.ledger) c.pass_time.new.router
      (g.T.EventWriter.contents c.pass_time.new.device) c.in-Ok.ensures.reported,
  counts_all (g.T.EventWriter.line c.args.event_writer.now) g.F.Family.family c.args.end c.args.merge.now c.args.router.now
      (g.T.EventWriter.contents c.args.device.now)
      c.run_turns.new.merge (ledger_seen g.F.Family.bytes_of c.run_turns.new.ledger) c.run_turns.new.router
      (g.T.EventWriter.contents c.run_turns.new.device) c.in_ok-run_turns.ensures.reported,
)
