use Rattle.pim_router.proofs.Happenings.{happening_goes_on}
use Rattle.pim_router.proofs.laws.happening_goes_on.Goals as goal

pub returns : goal.returns
returns c = happening_goes_on
