use Rattle.pim_change.proofs.Words.{◌+◌, length, change}
use Rattle.pim_change.proofs.Units.{IsChanging}
use Rattle.pim_change.proofs.changes.changed.Given as goal

-- what is told, and the change between the groups that are left, are the whole change
abbrev pub invariant-loop-old : goal.invariant-loop-old
invariant-loop-old g l = IsChanging g.F.Family.bytes_of l.units.items l.left l.right (change l.reported l.wanted)

abbrev pub decreases-loop-old : goal.decreases-loop-old
decreases-loop-old g l = length l.left + length l.right
