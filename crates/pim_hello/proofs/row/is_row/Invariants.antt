use Rattle.pim_hello.proofs.Words.{◌≡◌, length, is_row}
use Rattle.pim_hello.proofs.row.is_row.Given as goal

abbrev pub invariant-loop-size : goal.invariant-loop-size
invariant-loop-size l = is_row l.rest ≡ is_row l.fn.bytes

abbrev pub decreases-loop-size : goal.decreases-loop-size
decreases-loop-size l = length l.rest
