use Rattle.std.proofs.Common.{◌≡◌, ◌≤◌, vec_capacity}
use Rattle.pim_summary.specs.Lists.{Ascends}
use Rattle.pim_summary.specs.Routers.{rp_address, rps_seen, with_sets}
use Rattle.pim_summary.proofs.upstreams.count_sets.Given as goal

-- the sets that are left are still to be counted
abbrev pub invariant-loop-set : goal.invariant-loop-set
invariant-loop-set g l = (with_sets g.F.Family.family l.set-iterator (rps_seen l.rps.items
    l.has_more)
    ≡ with_sets g.F.Family.family l.fn.sets (rps_seen l.fn.rps.items l.fn.has_more))
    × Ascends rp_address l.rps.items × (64 ≤ vec_capacity l.rps)
