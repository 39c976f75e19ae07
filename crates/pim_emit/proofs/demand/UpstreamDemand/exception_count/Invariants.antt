use Rattle.pim_emit.proofs.Words.{◌≡◌, ◌+◌, Some, length, above, exceptions_in, AreRpts}
use Rattle.pim_emit.proofs.demand.UpstreamDemand.exception_count.Given as goal

-- those that are counted, and those above the bound
abbrev pub invariant-loop-exception : goal.invariant-loop-exception
invariant-loop-exception g l =
    let all = exceptions_in (g.F.Family.bytes_of l.group) l.self.form in record {
      count : l.count + length (above (Some l.rpts.bound) all) ≡ length all;
      rpts : AreRpts l.self.machines (g.F.Family.bytes_of l.group) l.stars.first l.rpts;
    }

-- those above the bound
abbrev pub decreases-loop-exception : goal.decreases-loop-exception
decreases-loop-exception g l = length (above (Some l.rpts.bound) (exceptions_in (g.F.Family.bytes_of l.group) l.self.form))
