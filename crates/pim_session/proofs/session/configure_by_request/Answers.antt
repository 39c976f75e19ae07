use Rattle.pim_session.proofs.Words.{Ok, sym, subst, fault_words, Request, session_in, gathered_seen, gathering, Configured}
use Rattle.pim_session.proofs.Commanded.{from_configured}
use Rattle.pim_session.proofs.session.configure_by_request.Goals as goal

pub returns-in-From-clause-configured : goal.returns-in-From-clause-configured
returns-in-From-clause-configured g c = λ kept.
    subst (λ (r : Request). Configured (session_in (gathering (gathered_seen c.args.setup.now)) kept) (Ok r) (g.W.Drain.contents c.args.answers.now) (g.W.Drain.contents c.write_fault.new.answers)
    c.and.result (session_in (gathering (gathered_seen c.args.setup.now)) kept)) (sym c.in-From.is)
    (from_configured (gathered_seen c.args.setup.now) kept (g.W.Drain.contents c.args.answers.now) (g.W.Drain.contents c.write_fault.new.answers) c.write_fault.result c.and.result
    c.in-From.field-0 (fault_words c.plain-fault.result) c.plain-fault.ensures c.and.ensures c.write_fault.ensures.bytes)
