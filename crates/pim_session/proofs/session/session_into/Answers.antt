use Rattle.pim_session.proofs.Words.{List, [], subst, IfSome, Kept, session_in, gathered_seen, Gathered, gathering, Converses}
use Rattle.pim_session.proofs.session.session_into.Goals as goal

pub returns-clause-converses : goal.returns-clause-converses
returns-clause-converses g c =
    subst (λ (gathered : Gathered). IfSome c.args.items.now.coming (λ bytes. Converses (session_in (gathering gathered) []) bytes (g.W.Drain.contents c.args.answers.now)
    (g.W.Drain.contents c.answer_all.new.answers) c.answer_all.result)) c.new-setup.ensures
    (subst (λ (kept : List Kept). IfSome c.args.items.now.coming (λ bytes. Converses (session_in (gathering (gathered_seen c.new-setup.result)) kept) bytes (g.W.Drain.contents c.args.answers.now)
    (g.W.Drain.contents c.answer_all.new.answers) c.answer_all.result)) c.new-store.ensures c.answer_all.ensures.ended)
