use Rattle.pim_request.proofs.OneCommand.{one_command_of}
use Rattle.pim_request.proofs.laws.line_states_one_command.Goals as goal

pub returns : goal.returns
returns c = one_command_of c.text_names_one_of_either.ensures
