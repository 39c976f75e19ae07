use Rattle.pim_text.proofs.OneName.{one_name}
use Rattle.pim_text.proofs.one_reading.text_names_one_of_either.Goals as goal

pub returns : goal.returns
returns c = one_name c.text_names_one_address.ensures
