use Rattle.pim_down.proofs.Echo.{echo_names}
use Rattle.pim_down.proofs.laws.echo_names_a_machine.Goals as goal

pub returns : goal.returns
returns c = echo_names
