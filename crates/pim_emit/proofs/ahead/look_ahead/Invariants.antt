use Rattle.pim_emit.proofs.Words.{◌≡◌, length, option_map, AreNextBelow}
use Rattle.pim_emit.proofs.ahead.look_ahead.Given as goal

-- the ports before this one are looked up
abbrev pub invariant-loop-port : goal.invariant-loop-port
invariant-loop-port g l = record {
  long : length l.nexts ≡ length l.initial.nexts;
  next : AreNextBelow l.ports (g.F.Family.bytes_of l.group) (option_map g.F.Family.bytes_of l.bound) l.port l.nexts;
}
