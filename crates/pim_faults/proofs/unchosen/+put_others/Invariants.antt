use Rattle.std.proofs.Common.{length}
use Rattle.pim_faults.proofs.unchosen.+put_others.Given as goal

abbrev pub decreases-put_others : goal.decreases-put_others
decreases-put_others g l = length l.slots.now
