use Rattle.pim_exchange.proofs.Runs.{untaken, same_tables, first_stopped, second_stopped}
use Rattle.pim_exchange.proofs.both.replay_both.Goals as goal

pub returns-in-Err-clause-runs : goal.returns-in-Err-clause-runs
returns-in-Err-clause-runs g c =
    first_stopped g.row.F-Addr.Denot g.F.Family.family c.args.end c.args.merge_a.now c.replay_quietly.new.merge c.args.router_a.now c.replay_quietly.new.router c.args.merge_b.now c.args.router_b.now c.in-Err.fault c.in-Err.ensures.runs

pub returns-in-Err-clause-tallied_b : goal.returns-in-Err-clause-tallied_b
returns-in-Err-clause-tallied_b g c = untaken c.args.end c.args.merge_b.now

pub returns-in-Err-replay_quietly-clause-runs : goal.returns-in-Err-replay_quietly-clause-runs
returns-in-Err-replay_quietly-clause-runs g c = rw (c.of_second.ensures)
    (second_stopped g.row.F-Addr.Denot g.F.Family.family c.args.end c.args.merge_a.now c.replay_quietly.new.merge c.args.router_a.now c.replay_quietly.new.router c.args.merge_b.now c.args.router_b.now
    c.replay_quietly-2.new.merge c.replay_quietly-2.new.router c.in-Err-replay_quietly.fault c.in-Ok.ensures.runs c.replay_quietly.ensures.tallied c.in-Err-replay_quietly.ensures.runs)

-- a replay leaves its router's table
pub returns-in-Ok-replay_quietly-clause-routes : goal.returns-in-Ok-replay_quietly-clause-routes
returns-in-Ok-replay_quietly-clause-routes g c =
    same_tables c.args.router_a.now c.replay_quietly.new.router c.args.router_b.now c.replay_quietly-2.new.router c.in-Ok.ensures.setup c.in-Ok-replay_quietly.ensures.setup c.requires.routes
