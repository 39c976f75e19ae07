use Rattle.std.proofs.Common.{◌≡◌, ◌≤◌, vec_capacity}
use Rattle.pim_summary.specs.Lists.{Ascends}
use Rattle.pim_summary.specs.Routers.{rp_address, rps_seen, with_entries}
use Rattle.pim_summary.proofs.upstreams.count_entries.Given as goal

-- the entries that are left are still to be counted
abbrev pub invariant-loop-entry : goal.invariant-loop-entry
invariant-loop-entry g l = (with_entries g.F.Family.family l.entry-iterator (rps_seen l.rps.items
    l.has_more)
    ≡ with_entries g.F.Family.family l.fn.entries (rps_seen l.fn.rps.items l.fn.has_more))
    × Ascends rp_address l.rps.items × (64 ≤ vec_capacity l.rps)
