use Rattle.pim_session.proofs.Words.{store_seen, session_in, family_in, state_in, serving}
use Rattle.pim_session.proofs.Served.{begun_serving, begun_failed}
use Rattle.pim_session.proofs.serving.begin.Goals as goal

pub returns-in-Ok-clause-begun : goal.returns-in-Ok-clause-begun
returns-in-Ok-clause-begun g c = λ start.
    begun_serving c.args.items.now.coming (g.W.Drain.contents c.args.answers.now) (g.W.Drain.contents c.write_ok.new.answers) (g.W.Drain.contents c.serve.new.answers) c.serve.new.items.coming
    start (session_in (serving (family_in c.args.router.now) (state_in c.args.router.now)) (store_seen c.args.store.now)) (store_seen c.serve.new.store) c.serve.result
    c.in-Ok.ensures.bytes (c.serve.ensures.ended start)

pub returns-in-Err-clause-begun : goal.returns-in-Err-clause-begun
returns-in-Err-clause-begun g c = λ start.
    begun_failed c.args.items.now.coming (g.W.Drain.contents c.args.answers.now) (g.W.Drain.contents c.write_ok.new.answers) c.args.items.now.coming
    start (session_in (serving (family_in c.args.router.now) (state_in c.args.router.now)) (store_seen c.args.store.now)) (store_seen c.args.store.now) c.in-Err.ensures.bytes
