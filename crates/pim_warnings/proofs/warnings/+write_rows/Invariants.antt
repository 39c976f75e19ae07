use Rattle.std.proofs.Common.{length}
use Rattle.pim_warnings.proofs.warnings.+write_rows.Given as goal

abbrev pub decreases-write_rows : goal.decreases-write_rows
decreases-write_rows g l = length l.rows.now
