use Rattle.pim_mirror.proofs.SomeMessages.{state_has_messages}
use Rattle.pim_mirror.proofs.mirror_laws.state_has_messages_unless_too_big.Goals as goal

pub returns : goal.returns
returns c = state_has_messages c.form_of_demand_toward.ensures c.one_normal_form.ensures c.messages_are_there_unless_too_big.ensures
