use Rattle.pim_hello.proofs.OneNeighbour.{hearing_changes_its_sender_alone}
use Rattle.pim_hello.proofs.laws.hearing_changes_its_sender_alone.Goals as goal

pub returns : goal.returns
returns c = hearing_changes_its_sender_alone
