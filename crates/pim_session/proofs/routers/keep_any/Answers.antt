use Rattle.pim_session.proofs.Words.{store_seen, family_in, state_in}
use Rattle.pim_session.proofs.Making.{keep_refused, keep_done, keep_unheld}
use Rattle.pim_session.proofs.routers.keep_any.Goals as goal

pub returns-in-Err-clause-answered : goal.returns-in-Err-clause-answered
returns-in-Err-clause-answered g c =
    keep_refused (family_in c.args.router.now) c.args.command.now (state_in c.args.router.now) (store_seen c.args.store.now) (g.W.Drain.contents c.args.answers.now) _ _
    c.in-Err.fault c.in-Err.ensures c.write_fault.ensures.bytes

pub returns-in-Ok-keep-clause-answered : goal.returns-in-Ok-keep-clause-answered
returns-in-Ok-keep-clause-answered g c =
    keep_done (family_in c.args.router.now) c.args.command.now (state_in c.args.router.now) (store_seen c.args.store.now) (g.W.Drain.contents c.args.answers.now) _ _
    c.in-Ok.form _ c.in-Ok.ensures c.in-Ok-keep.ensures.ok c.write_ok.ensures.bytes

pub returns-in-Err-keep-clause-answered : goal.returns-in-Err-keep-clause-answered
returns-in-Err-keep-clause-answered g c =
    keep_unheld (family_in c.args.router.now) c.args.command.now (state_in c.args.router.now) (store_seen c.args.store.now) (g.W.Drain.contents c.args.answers.now) _ _
    c.in-Ok.form _ _ c.in-Ok.ensures c.memory.ensures c.in-Err-keep.ensures.err c.write_fault-in-Err-keep.ensures.bytes
