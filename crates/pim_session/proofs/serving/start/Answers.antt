use Rattle.pim_session.proofs.Words.{fault_words, store_seen, session_in, family_in, state_in, gathered_seen, gathering, serving}
use Rattle.pim_session.proofs.Served.{start_served, start_refused, memory_instead}
use Rattle.pim_session.proofs.serving.start.Goals as goal

pub returns-in-Err-clause-begins : goal.returns-in-Err-clause-begins
returns-in-Err-clause-begins g c =
    start_refused (gathered_seen c.args.setup.now) (store_seen c.args.store.now) c.args.items.now.coming (g.W.Drain.contents c.args.answers.now) (g.W.Drain.contents c.refuse.new.answers)
    (fault_words c.in-Err.fault) c.refuse.result c.in-Err.ensures c.refuse.ensures.refused

pub returns-in-Ok-new-clause-begins : goal.returns-in-Ok-new-clause-begins
returns-in-Ok-new-clause-begins g c =
    start_served (gathered_seen c.args.setup.now) (store_seen c.args.store.now) c.args.items.now.coming (g.W.Drain.contents c.args.answers.now) (g.W.Drain.contents c.begin.new.answers) c.begin.new.items.coming
    (serving (family_in c.in-Ok.router) (state_in c.in-Ok.router)) (store_seen c.begin.new.store) c.begin.result c.in-Ok.ensures
    (c.begin.ensures.begun (session_in (gathering (gathered_seen c.args.setup.now)) (store_seen c.args.store.now)))

pub returns-clause-begins : goal.returns-clause-begins
returns-clause-begins g c =
    let gathered = gathered_seen c.args.setup.now in
    start_refused gathered (store_seen c.args.store.now) c.args.items.now.coming (g.W.Drain.contents c.args.answers.now) (g.W.Drain.contents c.refuse-in-Err-new.new.answers)
    (fault_words c.memory.result) c.refuse-in-Err-new.result (rw c.memory.ensures (memory_instead gathered.family gathered (family_in c.in-Ok.router) (state_in c.in-Ok.router) c.in-Ok.ensures)) c.refuse-in-Err-new.ensures.refused
