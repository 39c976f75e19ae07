use Rattle.std.proofs.Common.{subst}
use Rattle.pim_down.specs.Sound.{IsSound}
use Rattle.pim_router.proofs.Current.{few_at}
use Rattle.pim_router.proofs.router.Router.ports_keep_their_limits.Goals as goal

pub returns-clause-neighbours : goal.returns-clause-neighbours
returns-clause-neighbours g c = λ port. few_at c.args.self.now.tables port c.is_router.ensures.few

pub returns-clause-records : goal.returns-clause-records
returns-clause-records g c = (subst (IsSound g.F.Family.family) c.ports.ensures c.is_sound.ensures).within

pub returns-clause-limit : goal.returns-clause-limit
returns-clause-limit g c = (subst (IsSound g.F.Family.family) c.ports.ensures c.is_sound.ensures).limit
