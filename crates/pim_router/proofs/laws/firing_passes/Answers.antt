use Rattle.pim_router.proofs.Happenings.{firing_passes}
use Rattle.pim_router.proofs.laws.firing_passes.Goals as goal

pub returns : goal.returns
returns c = firing_passes
