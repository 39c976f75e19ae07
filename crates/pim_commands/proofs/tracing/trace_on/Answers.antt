use Rattle.pim_commands.proofs.Words.{subst}
use Rattle.pim_trace.specs.StateTrace.{TracesState}
use Rattle.pim_trace.specs.Trace.{Traces}
use Rattle.pim_commands.proofs.tracing.trace_on.Goals as goal

pub returns-then-tracing-clause-events : goal.returns-then-tracing-clause-events
returns-then-tracing-clause-events g c = rw (c.if-tracing.true)
    (subst (λ end. TracesState (g.T.EventWriter.line c.args.printer.now) g.F.Family.family end c.args.merge.now c.trace_state_into.new.merge c.args.router.now c.trace_state_into.new.router
    (g.T.EventWriter.contents c.args.writer.now) (g.T.EventWriter.contents c.trace_state_into.new.device) c.trace_state_into.result) c.end_of-end.ensures.end c.trace_state_into.ensures.events)

pub returns-clause-events : goal.returns-clause-events
returns-clause-events g c = rw (c.if-tracing.false)
    (subst (λ end. Traces (g.T.EventWriter.line c.args.printer.now) g.F.Family.family end c.args.merge.now c.trace_into.new.merge c.args.router.now c.trace_into.new.router
    (g.T.EventWriter.contents c.args.writer.now) (g.T.EventWriter.contents c.trace_into.new.device) c.trace_into.result) c.end_of-end.ensures.end c.trace_into.ensures.events)
