use Rattle.pim_mirror.proofs.SomeHellos.{neighbours_have_hellos}
use Rattle.pim_mirror.proofs.hello_laws.neighbours_have_hellos.Goals as goal

pub returns : goal.returns
returns c = neighbours_have_hellos c.some_message_is_sealed.ensures
