use Rattle.pim_text.proofs.TextStates.{message_states}
use Rattle.pim_text.proofs.laws.message_text_states.Goals as goal

pub returns : goal.returns
returns c = message_states c.written_text_names.ensures
