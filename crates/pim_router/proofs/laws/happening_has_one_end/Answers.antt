use Rattle.pim_router.proofs.Happenings.{happening_once}
use Rattle.pim_router.proofs.laws.happening_has_one_end.Goals as goal

pub returns : goal.returns
returns c = happening_once
