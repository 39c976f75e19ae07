use Rattle.pim_mirror.proofs.HelloPackets.{written_are_read}
use Rattle.pim_mirror.proofs.hello_laws.written_hellos_are_read.Goals as goal

pub returns : goal.returns
returns c = written_are_read c.sealed_opens.ensures c.reads_back.ensures
