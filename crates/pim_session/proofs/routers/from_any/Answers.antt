use Rattle.pim_session.proofs.Words.{sym, subst, Answered, AnswersFrom, AnyRouter, family_in, state_in}
use Rattle.pim_session.proofs.routers.from_any.Goals as goal

pub returns-in-Ipv4-clause-answered : goal.returns-in-Ipv4-clause-answered
returns-in-Ipv4-clause-answered g c =
    subst (λ (any : AnyRouter). Answered (AnswersFrom (family_in any) c.args.from.now (state_in any)) (g.W.Drain.contents c.args.answers.now) (g.W.Drain.contents c.answer_from.new.answers) c.answer_from.result (λ _. c.answer_from.new.router))
    (sym c.in-Ipv4.is) c.answer_from.ensures.answered

pub returns-in-Ipv6-clause-answered : goal.returns-in-Ipv6-clause-answered
returns-in-Ipv6-clause-answered g c =
    subst (λ (any : AnyRouter). Answered (AnswersFrom (family_in any) c.args.from.now (state_in any)) (g.W.Drain.contents c.args.answers.now) (g.W.Drain.contents c.answer_from-in-Ipv6.new.answers) c.answer_from-in-Ipv6.result (λ _. c.answer_from-in-Ipv6.new.router))
    (sym c.in-Ipv6.is) c.answer_from-in-Ipv6.ensures.answered
