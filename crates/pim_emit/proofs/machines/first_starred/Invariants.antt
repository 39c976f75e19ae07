use Rattle.pim_emit.proofs.Words.{◌≡◌, false, some_below, is_starred}
use Rattle.pim_emit.proofs.machines.first_starred.Given as goal

-- no port before this one has it
abbrev pub invariant-loop-port : goal.invariant-loop-port
invariant-loop-port g l = some_below l.port (is_starred l.ports (g.F.Family.bytes_of l.group)) ≡ false
