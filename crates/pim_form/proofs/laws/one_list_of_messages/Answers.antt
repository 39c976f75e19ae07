use Rattle.pim_form.proofs.Told.{one_list}
use Rattle.pim_form.proofs.laws.one_list_of_messages.Goals as goal

pub returns : goal.returns
returns c = λ family writing rps form one other is_one is_other. one_list family writing rps c.one_checksum.ensures form one other is_one is_other
