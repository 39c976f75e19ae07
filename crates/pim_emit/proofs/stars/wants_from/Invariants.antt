use Rattle.pim_emit.proofs.Words.{◌≡◌, false, Shared, wants_on, some_below}
use Rattle.pim_emit.proofs.stars.wants_from.Given as goal

-- no port before this one wants it
abbrev pub invariant-loop-port : goal.invariant-loop-port
invariant-loop-port g l =
    some_below l.port (wants_on l.ports.records (g.F.Family.bytes_of l.source) (g.F.Family.bytes_of l.group) Shared) ≡ false
