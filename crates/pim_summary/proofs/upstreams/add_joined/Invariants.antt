use Rattle.std.proofs.Common.{◌≡◌, ◌≤◌}
use Rattle.pim_summary.specs.Routers.{more, joined_in}
use Rattle.pim_summary.proofs.upstreams.add_joined.Given as goal

-- the sets that are left are still to be added
abbrev pub invariant-loop-set : goal.invariant-loop-set
invariant-loop-set g l = (more l.joins (joined_in l.set-iterator)
    ≡ more l.fn.joins (joined_in l.fn.sets)) × (l.joins ≤ 18446744073709551615)
