use Rattle.pim_emit.proofs.Words.{◌≡◌, List, ℕ, option_map, Record, groups_of, next_above}
use Rattle.pim_emit.proofs.CountAbove.{count_above}
use Rattle.pim_emit.proofs.demand.UpstreamDemand.next_group.Given as goal

-- no group was passed over
abbrev pub invariant-loop-group : goal.invariant-loop-group
invariant-loop-group g l =
    next_above (option_map g.F.Family.bytes_of l.bound) (groups_of l.self.form) ≡ next_above (option_map g.F.Family.bytes_of l.fn.bound) (groups_of l.self.form)

-- records of groups above the bound
abbrev pub decreases-loop-group : goal.decreases-loop-group
decreases-loop-group g l =
    count_above (λ (held : Record (List ℕ)). held.key.group) (option_map g.F.Family.bytes_of l.bound) l.self-inside.ports.records
