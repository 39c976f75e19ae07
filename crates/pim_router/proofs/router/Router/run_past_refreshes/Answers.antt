use Rattle.pim_router.proofs.Words.{step_seen, fires_behind}
use Rattle.pim_router.proofs.PastRefreshes.{past_keeps, past_nearer, seen_behind}
use Rattle.pim_router.proofs.router.Router.run_past_refreshes.Goals as goal

pub returns-clause-nearer : goal.returns-clause-nearer
returns-clause-nearer g c =
    λ goes. past_nearer c.runs_come_nearer.ensures c.run_machines.result.1 c.args.moment c.args.self.now c.run_machines.new.self (fires_behind (step_seen g.F.Family.bytes_of c.run_machines.result.0)) c.run_machines.ensures.run
    (λ reached. goes (seen_behind g.F.Family.bytes_of c.run_machines.result.0 reached))

pub returns-clause-setup : goal.returns-clause-setup
returns-clause-setup g c =
    past_keeps c.run_machines.result.1 c.args.moment c.args.self.now c.run_machines.new.self (fires_behind (step_seen g.F.Family.bytes_of c.run_machines.result.0)) c.run_machines.ensures.run
