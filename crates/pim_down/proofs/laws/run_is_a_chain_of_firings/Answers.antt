use Rattle.pim_down.proofs.Stops.{chain_runs}
use Rattle.pim_down.proofs.laws.run_is_a_chain_of_firings.Goals as goal

pub returns : goal.returns
returns c = chain_runs
