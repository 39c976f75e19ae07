use Rattle.pim_merge.proofs.Words.{◌≡◌, drop, map, sooner, earliest_from, head_rank, past_at}
use Rattle.pim_merge.proofs.search.earliest.Given as goal

-- the earliest so far and the heads that are left give the earliest of all
abbrev pub invariant-loop-number : goal.invariant-loop-number
invariant-loop-number g l = sooner l.found (earliest_from l.number (map (head_rank (past_at l.last l.clock)) (drop
    l.number l.lanes))) ≡ earliest_from 0 (map (head_rank (past_at l.last l.clock)) l.lanes)
