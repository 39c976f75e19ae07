use Rattle.std.proofs.Common.{◌≡◌, None, drop}
use Rattle.pim_summary.specs.Routers.{most_joined}
use Rattle.pim_summary.proofs.upstreams.most_joined.Given as goal

-- the RPs that are left are still to be compared
abbrev pub invariant-loop-rp : goal.invariant-loop-rp
invariant-loop-rp l = most_joined l.best (drop l.rp-index l.rps) ≡ most_joined None l.rps
