use Rattle.pim_router.proofs.Turns.{goes_on}
use Rattle.pim_router.proofs.laws.run_goes_on.Goals as goal

pub returns : goal.returns
returns c = goes_on
