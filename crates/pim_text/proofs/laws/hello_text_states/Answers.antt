use Rattle.pim_text.proofs.TextStates.{hello_states}
use Rattle.pim_text.proofs.laws.hello_text_states.Goals as goal

pub returns : goal.returns
returns c = hello_states c.written_text_names.ensures
