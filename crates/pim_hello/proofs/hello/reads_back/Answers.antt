use Rattle.pim_hello.proofs.Again.{reads_back}
use Rattle.pim_hello.proofs.hello.reads_back.Goals as goal

pub returns : goal.returns
returns c = reads_back
