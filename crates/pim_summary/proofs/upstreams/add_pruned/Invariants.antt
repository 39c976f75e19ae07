use Rattle.std.proofs.Common.{◌≡◌, ◌≤◌}
use Rattle.pim_summary.specs.Routers.{more, pruned_in}
use Rattle.pim_summary.proofs.upstreams.add_pruned.Given as goal

-- the sets that are left are still to be added
abbrev pub invariant-loop-set : goal.invariant-loop-set
invariant-loop-set g l = (more l.prunes (pruned_in l.set-iterator)
    ≡ more l.fn.prunes (pruned_in l.fn.sets)) × (l.prunes ≤ 18446744073709551615)
