use Rattle.pim_emit.proofs.Words.{◌≡◌, List, ℕ, Some, Record, source_of, next_above, exceptions_in, AreRpts}
use Rattle.pim_emit.proofs.CountAbove.{count_above}
use Rattle.pim_emit.proofs.demand.UpstreamDemand.next_exception.Given as goal

-- no exception was passed over, and the machines behind the bound are left
abbrev pub invariant-loop-held : goal.invariant-loop-held
invariant-loop-held g l =
    let all = exceptions_in (g.F.Family.bytes_of l.group) l.self.form in record {
      next : next_above (Some l.rpts.bound) all ≡ next_above (Some l.initial.rpts.bound) all;
      rpts : AreRpts l.self-inside.ports (g.F.Family.bytes_of l.group) l.stars.first l.rpts;
    }

-- records of sources above the bound
abbrev pub decreases-loop-held : goal.decreases-loop-held
decreases-loop-held g l =
    count_above (λ (held : Record (List ℕ)). source_of held.key.what) (Some l.rpts.bound) l.self-inside.ports.records
