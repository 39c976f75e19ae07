use Rattle.pim_text.proofs.OneReading.{one_message}
use Rattle.pim_text.proofs.one_reading.text_states_one_message.Goals as goal

pub returns : goal.returns
returns c = one_message c.text_names_one_of_either.ensures
