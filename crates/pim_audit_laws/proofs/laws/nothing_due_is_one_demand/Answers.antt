use Rattle.pim_audit_laws.proofs.Demands.{nothing_due_is_one_demand}
use Rattle.pim_audit_laws.proofs.laws.nothing_due_is_one_demand.Goals as goal

pub returns : goal.returns
returns c = nothing_due_is_one_demand c.one_normal_form.ensures c.nothing_due_is_one_form.ensures
