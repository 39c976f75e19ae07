use Rattle.pim_mirror.proofs.FirstHellos.{hellos_are_heard}
use Rattle.pim_mirror.proofs.hello_laws.hellos_are_heard.Goals as goal

pub returns : goal.returns
returns c = hellos_are_heard
