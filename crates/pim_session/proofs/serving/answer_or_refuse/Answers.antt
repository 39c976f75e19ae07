use Rattle.pim_session.proofs.Words.{Result, sym, subst, AnswerFault, Answered, fault_words, store_seen, Request}
use Rattle.pim_session.proofs.Words.{Answers, session_in, family_in, state_in, request_seen, serving, session_after}
use Rattle.pim_session.proofs.Commanded.{fault_answered}
use Rattle.pim_session.proofs.serving.answer_or_refuse.Goals as goal

pub returns-in-Err-clause-answered : goal.returns-in-Err-clause-answered
returns-in-Err-clause-answered g c =
    subst (λ (r : Result Request AnswerFault). Answered (Answers (session_in (serving (family_in c.args.router.now) (state_in c.args.router.now)) (store_seen c.args.store.now)) (request_seen r))
    (g.W.Drain.contents c.args.answers.now) (g.W.Drain.contents c.write_fault.new.answers) c.and.result
    (λ serves. session_after serves (family_in c.args.router.now) (state_in c.args.router.now) (store_seen c.args.store.now))) (sym c.in-Err.is)
    (fault_answered (family_in c.args.router.now) (state_in c.args.router.now) (store_seen c.args.store.now) (g.W.Drain.contents c.args.answers.now) (g.W.Drain.contents c.write_fault.new.answers)
    c.write_fault.result c.and.result (fault_words c.in-Err.fault) c.and.ensures c.write_fault.ensures.bytes)
