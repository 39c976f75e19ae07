use Rattle.pim_merge.proofs.Looking.{IsLookedUpTo}
use Rattle.pim_merge.proofs.search.look_at_all.Given as goal

abbrev pub invariant-loop-capture : goal.invariant-loop-capture
invariant-loop-capture g l = IsLookedUpTo l.capture l.fn.lanes l.lanes
