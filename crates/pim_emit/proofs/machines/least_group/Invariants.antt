use Rattle.pim_emit.proofs.Words.{◌&&◌, option_map, is_above, some_below, IsLeast, has_group}
use Rattle.pim_emit.proofs.machines.least_group.Given as goal

-- the least of the ports before this one
abbrev pub invariant-loop-port : goal.invariant-loop-port
invariant-loop-port g l =
    IsLeast (λ group. some_below l.port (λ port. is_above (option_map g.F.Family.bytes_of l.bound) group && has_group l.ports group port))
    (option_map g.F.Family.bytes_of l.least)
