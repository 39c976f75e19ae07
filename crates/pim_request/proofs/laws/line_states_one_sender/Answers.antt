use Rattle.pim_request.proofs.OneCommand.{one_sender_of_line}
use Rattle.pim_request.proofs.laws.line_states_one_sender.Goals as goal

pub returns : goal.returns
returns c = one_sender_of_line c.text_names_one_of_either.ensures
