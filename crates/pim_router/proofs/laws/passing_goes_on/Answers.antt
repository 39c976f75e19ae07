use Rattle.pim_router.proofs.Happenings.{passing_goes_on}
use Rattle.pim_router.proofs.laws.passing_goes_on.Goals as goal

pub returns : goal.returns
returns c = passing_goes_on
