use Rattle.pim_emit.proofs.Words.{◌≡◌, ◌≤◌, List, ℕ, length, option_map, Record, source_of, next_above, sources_in, AreNext}
use Rattle.pim_emit.proofs.CountAbove.{count_above}
use Rattle.pim_emit.proofs.demand.UpstreamDemand.next_ahead.Given as goal

-- no source was passed over, and what comes next on each port is above the bound
abbrev pub invariant-loop-source : goal.invariant-loop-source
invariant-loop-source g l =
    let bytes_of = g.F.Family.bytes_of in
    let bound = option_map bytes_of l.bound in record {
      source : next_above bound (sources_in (bytes_of l.group) l.self.form)
          ≡ next_above (option_map bytes_of l.fn.bound) (sources_in (bytes_of l.group) l.self.form);
      next : l.self-inside.ports.ports ≤ length l.nexts → AreNext l.self-inside.ports (bytes_of l.group) bound l.nexts;
      long : length l.nexts ≡ length l.initial.nexts;
    }

-- records of sources above the bound
abbrev pub decreases-loop-source : goal.decreases-loop-source
decreases-loop-source g l =
    count_above (λ (held : Record (List ℕ)). source_of held.key.what) (option_map g.F.Family.bytes_of l.bound) l.self-inside.ports.records
