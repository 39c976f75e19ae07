use Rattle.pim_change.proofs.Words.{◌++◌, ◌+◌, length, units_seen}
use Rattle.pim_change.proofs.Units.{IsLacking, lacking_told}
use Rattle.pim_change.proofs.action.push_lacking.Given as goal

abbrev pub invariant-loop-a : goal.invariant-loop-a
invariant-loop-a g l =
    let bytes_of = g.F.Family.bytes_of in
    IsLacking bytes_of l.kind l.group l.units.items l.left l.right
    (units_seen bytes_of l.fn.units.items ++ lacking_told bytes_of l.kind l.group l.one l.other)

abbrev pub decreases-loop-a : goal.decreases-loop-a
decreases-loop-a g l = length l.left + length l.right
