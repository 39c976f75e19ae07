use Rattle.pim_down.specs.Seen.{step_seen}
use Rattle.pim_down.proofs.Firings.{runs_looking}
use Rattle.pim_down.proofs.ports.Ports.run_to.Goals as goal

pub returns-clause-run : goal.returns-clause-run
returns-clause-run g c = runs_looking c.args.moment c.args.self.now c.run_counted-step.new.self (step_seen g.F.Family.bytes_of c.run_counted-step.result.0) c.run_counted-step.result.1 c.run_counted-step.ensures.run
