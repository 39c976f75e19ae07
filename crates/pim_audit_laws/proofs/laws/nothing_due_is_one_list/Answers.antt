use Rattle.pim_audit_laws.proofs.Demands.{nothing_due_is_one_list}
use Rattle.pim_audit_laws.proofs.laws.nothing_due_is_one_list.Goals as goal

pub returns : goal.returns
returns c =
    nothing_due_is_one_list c.nothing_due_is_one_demand.ensures c.without_local_is_demanded.ensures c.one_list_is_demanded.ensures.list
