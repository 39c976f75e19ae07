use Rattle.pim_text.proofs.OneReading.{one_body, long_body}
use Rattle.pim_text.proofs.one_reading.text_has_one_body.Goals as goal

pub returns-clause-body : goal.returns-clause-body
returns-clause-body c = one_body c.text_states_one_message.ensures

pub returns-clause-long : goal.returns-clause-long
returns-clause-long c = long_body c.text_states_one_message.ensures
