use Rattle.pim_router.specs.Seen.{step_seen}
use Rattle.pim_router.proofs.RunTo.{seen_reached}
use Rattle.pim_router.proofs.Setups.{run_keeps}
use Rattle.pim_router.proofs.router.Router.run_to.Goals as goal

pub returns-clause-nearer : goal.returns-clause-nearer
returns-clause-nearer g c =
    λ goes. c.runs_come_nearer.ensures c.args.moment c.args.self.now c.run_until.new.self (step_seen g.F.Family.bytes_of c.run_until.result) c.run_until.ensures.run
    (λ reached. goes (seen_reached g.F.Family.bytes_of c.run_until.result reached))

pub returns-clause-setup : goal.returns-clause-setup
returns-clause-setup g c =
    run_keeps c.args.moment c.args.self.now c.run_until.new.self (step_seen g.F.Family.bytes_of c.run_until.result) c.run_until.ensures.run
