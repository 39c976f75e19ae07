use Rattle.pim_trace.proofs.Words.{◌∙◌, ap, inl, new_ledger}
use Rattle.pim_trace.proofs.Ending.{nothing_yet}
use Rattle.pim_trace.proofs.Underway.{untaken}
use Rattle.pim_trace.proofs.trace.trace_state_into.Goals as goal

pub returns-in_default-clause-events : goal.returns-in_default-clause-events
returns-in_default-clause-events g c = (
  inl (inl (nothing_yet (g.T.EventWriter.line c.args.event_writer.now) g.F.Family.family c.args.end c.args.merge.now
      c.args.router.now (g.T.EventWriter.contents c.args.device.now) c.every_state_goes_on.ensures)),
  untaken c.args.end
      c.args.merge.now,
)

pub trace_state_with-requires-clause-new : goal.trace_state_with-requires-clause-new
trace_state_with-requires-clause-new g c = c.in-Ok.ensures ∙ ap new_ledger c.port_count.ensures

pub returns-in_default-clause-tallied : goal.returns-in_default-clause-tallied
returns-in_default-clause-tallied g c = untaken c.args.end c.args.merge.now
