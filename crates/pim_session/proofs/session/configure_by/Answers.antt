use Rattle.pim_session.proofs.Words.{Result, sym, subst, AnswerFault, fault_words, Request, session_in, request_seen}
use Rattle.pim_session.proofs.Words.{gathered_seen, gathering, Configured}
use Rattle.pim_session.proofs.Commanded.{fault_configured}
use Rattle.pim_session.proofs.session.configure_by.Goals as goal

pub returns-in-Err-clause-configured : goal.returns-in-Err-clause-configured
returns-in-Err-clause-configured g c = λ kept.
    subst (λ (r : Result Request AnswerFault). Configured (session_in (gathering (gathered_seen c.args.setup.now)) kept) (request_seen r) (g.W.Drain.contents c.args.answers.now)
    (g.W.Drain.contents c.write_fault.new.answers) c.and.result (session_in (gathering (gathered_seen c.args.setup.now)) kept)) (sym c.in-Err.is)
    (fault_configured (gathered_seen c.args.setup.now) kept (g.W.Drain.contents c.args.answers.now) (g.W.Drain.contents c.write_fault.new.answers) c.write_fault.result c.and.result
    (fault_words c.in-Err.fault) c.and.ensures c.write_fault.ensures.bytes)
