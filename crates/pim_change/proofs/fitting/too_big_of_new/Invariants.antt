use Rattle.pim_change.proofs.Words.{[], change, too_big}
use Rattle.pim_change.proofs.StarsFit.{IsFitting}
use Rattle.pim_change.proofs.fitting.too_big_of_new.Given as goal

-- what is too big of the groups that are left is what is too big of all
abbrev pub invariant-loop-new : goal.invariant-loop-new
invariant-loop-new g l = IsFitting g.F.Family.family l.budget [] l.new-iterator
    (too_big g.F.Family.family l.budget (change [] l.fn.groups))
