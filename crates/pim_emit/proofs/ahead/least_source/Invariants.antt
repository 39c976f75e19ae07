use Rattle.pim_emit.proofs.Words.{◌&&◌, option_map, is_above, some_below, IsLeast, is_source_joined}
use Rattle.pim_emit.proofs.ahead.least_source.Given as goal

-- the least of the ports before this one
abbrev pub invariant-loop-port : goal.invariant-loop-port
invariant-loop-port g l =
    IsLeast (λ source. some_below l.port (λ port. is_above (option_map g.F.Family.bytes_of l.bound) source && is_source_joined l.ports (g.F.Family.bytes_of l.group) source port))
    (option_map g.F.Family.bytes_of l.least)
