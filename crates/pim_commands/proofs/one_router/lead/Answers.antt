use Rattle.pim_commands.proofs.Words.{◌∙◌, sym, ap, failures_of_exchange}
use Rattle.pim_commands.proofs.Ran.{failures_replayed, failures_traced}
use Rattle.pim_commands.proofs.one_router.lead.Goals as goal

pub returns-in-Report-clause-does : goal.returns-in-Report-clause-does
returns-in-Report-clause-does g c = rw (c.in-Report.is, ← c.is_some-via.ensures, ← c.end_of-end.ensures.end) (record { reported = c.replay_into.result; is_told = c.replay_into.ensures.report; is = c.of_replayed.ensures })

pub returns-in-Report-clause-count : goal.returns-in-Report-clause-count
returns-in-Report-clause-count g c = c.replay_into.ensures.count ∙ failures_replayed g.row.F-Addr.Denot (g.W.Drain.failures c.args.writer.now) c.replay_into.result ∙ sym (ap (failures_of_exchange (g.W.Drain.failures c.args.writer.now)) c.of_replayed.ensures)

pub returns-in-Trace-clause-does : goal.returns-in-Trace-clause-does
returns-in-Trace-clause-does g c = rw (c.in-Trace.is) (record { reported = c.trace_by.result; is_told = c.trace_by.ensures.events; is = c.of_traced.ensures })

pub returns-in-Trace-clause-count : goal.returns-in-Trace-clause-count
returns-in-Trace-clause-count g c = c.trace_by.ensures.count ∙ failures_traced g.row.F-Addr.Denot (g.W.Drain.failures c.args.writer.now) c.trace_by.result ∙ sym (ap (failures_of_exchange (g.W.Drain.failures c.args.writer.now)) c.of_traced.ensures)

pub returns-in-Audit-clause-does : goal.returns-in-Audit-clause-does
returns-in-Audit-clause-does g c = rw (c.in-Audit.is) (record { reported = c.audit_by.result; is_told = c.audit_by.ensures.audits; is = c.of_replayed-in-Audit.ensures })

pub returns-in-Audit-clause-count : goal.returns-in-Audit-clause-count
returns-in-Audit-clause-count g c = c.audit_by.ensures.count ∙ failures_replayed g.row.F-Addr.Denot (g.W.Drain.failures c.args.writer.now) c.audit_by.result ∙ sym (ap (failures_of_exchange (g.W.Drain.failures c.args.writer.now)) c.of_replayed-in-Audit.ensures)
