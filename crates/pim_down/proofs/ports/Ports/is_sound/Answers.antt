use Rattle.pim_down.proofs.Words.{subst, IsSound}
use Rattle.pim_down.proofs.ports.Ports.is_sound.Goals as goal

pub returns : goal.returns
returns g c = subst (IsSound g.F.Family.family) c.self.view_is c.self.invariant.0
