use Rattle.pim_mirror.proofs.Headlines.{headline}
use Rattle.pim_mirror.proofs.headline_laws.headline.Goals as goal

pub returns : goal.returns
returns c = headline c.same_messages_same_demand_toward.ensures c.normalising_twice_is_once.ensures c.fresh_router_mirrors.ensures
