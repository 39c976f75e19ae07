use Rattle.pim_merge.proofs.Words.{◌≡◌, drop, first_without_rp}
use Rattle.pim_merge.proofs.census.first_without_rp.Given as goal

-- the slots that are left give the group
abbrev pub invariant-loop-slot : goal.invariant-loop-slot
invariant-loop-slot g l = first_without_rp g.F.Family.family l.routes (drop l.slot-index l.slots) ≡ first_without_rp g.F.Family.family l.routes l.slots
