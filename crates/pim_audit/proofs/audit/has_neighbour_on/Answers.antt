use Rattle.std.proofs.Common.{◌∙◌}
use Rattle.pim_audit.proofs.Neighbours.{both_there}
use Rattle.pim_audit.proofs.audit.has_neighbour_on.Goals as goal

pub returns : goal.returns
returns g c = c.is_some.ensures ∙ both_there _ _ c.neighbour.result _ c.neighbour.ensures
