use Rattle.pim_session.proofs.Words.{sym, subst, Answered, store_seen, Request, AnswersAfter, family_in, state_in, session_after}
use Rattle.pim_session.proofs.Commanded.{from_answered}
use Rattle.pim_session.proofs.serving.answer_request.Goals as goal

pub returns-in-From-clause-answered : goal.returns-in-From-clause-answered
returns-in-From-clause-answered g c =
    subst (λ (r : Request). Answered (AnswersAfter (family_in c.args.router.now) r (state_in c.args.router.now, store_seen c.args.store.now))
    (g.W.Drain.contents c.args.answers.now) (g.W.Drain.contents c.from_any.new.answers) c.and.result
    (λ serves. session_after serves (family_in c.from_any.new.router) (state_in c.from_any.new.router) (store_seen c.args.store.now))) (sym c.in-From.is)
    (from_answered (family_in c.args.router.now) (state_in c.args.router.now) (store_seen c.args.store.now) (g.W.Drain.contents c.args.answers.now) (g.W.Drain.contents c.from_any.new.answers)
    c.from_any.result c.and.result c.in-From.from (family_in c.from_any.new.router) (state_in c.from_any.new.router) c.from_any.ensures.family c.and.ensures c.from_any.ensures.answered)
