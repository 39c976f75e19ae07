use Rattle.pim_audit_laws.proofs.Demands.{one_list_is_nothing_due}
use Rattle.pim_audit_laws.proofs.laws.one_list_is_nothing_due.Goals as goal

pub returns : goal.returns
returns c = one_list_is_nothing_due c.nothing_due_is_one_form.ensures c.one_normal_form.ensures
    c.messages_carry_the_form.ensures c.demanded_stars_have_rps.ensures c.without_local_is_demanded.ensures
