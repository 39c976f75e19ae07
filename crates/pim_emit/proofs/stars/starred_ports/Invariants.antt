use Rattle.pim_emit.proofs.Words.{◌≡◌, length, is_starred, AreFlags}
use Rattle.pim_emit.proofs.stars.starred_ports.Given as goal

-- those of the ports before this one are set
abbrev pub invariant-loop-port : goal.invariant-loop-port
invariant-loop-port g l = record {
  long : length l.flags ≡ 64;
  each : AreFlags l.port (is_starred l.ports (g.F.Family.bytes_of l.group)) l.flags;
}
