use Rattle.pim_router.proofs.ToFiring.{fires_nearer}
use Rattle.pim_router.proofs.router.Router.fire_to.Goals as goal

pub returns-clause-nearer : goal.returns-clause-nearer
returns-clause-nearer g c =
    fires_nearer c.timers_run_out.ensures g.F.Family.bytes_of c.args.moment c.args.self.now c.fire_machines.new.self c.fire_machines.result c.fire_machines.ensures.fires
