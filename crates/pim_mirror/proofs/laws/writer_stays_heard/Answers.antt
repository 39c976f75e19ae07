use Rattle.pim_mirror.proofs.StaysHeard.{stays_heard}
use Rattle.pim_mirror.proofs.laws.writer_stays_heard.Goals as goal

pub returns : goal.returns
returns c = stays_heard
