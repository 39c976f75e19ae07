use Rattle.pim_audit_laws.proofs.Nothing.{nothing_due_is_one_form}
use Rattle.pim_audit_laws.proofs.laws.nothing_due_is_one_form.Goals as goal

pub returns : goal.returns
returns c =
    nothing_due_is_one_form c.one_normal_form.ensures c.equal_forms_change_nothing.ensures c.addresses_are_in_order.ensures
