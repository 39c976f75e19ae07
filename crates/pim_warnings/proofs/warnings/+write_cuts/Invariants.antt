use Rattle.std.proofs.Common.{length}
use Rattle.pim_warnings.proofs.warnings.+write_cuts.Given as goal

abbrev pub decreases-write_cuts : goal.decreases-write_cuts
decreases-write_cuts g l = length l.places.now
