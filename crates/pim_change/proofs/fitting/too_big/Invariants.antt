use Rattle.pim_change.proofs.Words.{◌+◌, length, change, too_big}
use Rattle.pim_change.proofs.StarsFit.{IsFitting}
use Rattle.pim_change.proofs.fitting.too_big.Given as goal

-- what is too big between the groups that are left is what is too big of all
abbrev pub invariant-loop-old : goal.invariant-loop-old
invariant-loop-old g l = IsFitting g.F.Family.family l.budget l.left l.right
    (too_big g.F.Family.family l.budget (change l.reported l.wanted))

abbrev pub decreases-loop-old : goal.decreases-loop-old
decreases-loop-old g l = length l.left + length l.right
