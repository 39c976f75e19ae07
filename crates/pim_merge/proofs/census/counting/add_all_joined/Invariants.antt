use Rattle.pim_merge.proofs.Words.{◌≡◌, groups_with}
use Rattle.pim_merge.proofs.census.counting.add_all_joined.Given as goal

-- the sets that are left are still to be added
abbrev pub invariant-loop-set : goal.invariant-loop-set
invariant-loop-set g l = groups_with l.set-iterator l.groups ≡ groups_with l.fn.sets l.fn.groups
