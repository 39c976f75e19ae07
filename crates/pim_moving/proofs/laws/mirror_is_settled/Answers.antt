use Rattle.pim_moving.proofs.Mirroring.{settled}
use Rattle.pim_moving.proofs.laws.mirror_is_settled.Goals as goal

pub returns : goal.returns
returns c = settled
