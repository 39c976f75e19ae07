use Rattle.pim_emit.proofs.Words.{option_map, least_seen, AreLeastBelow}
use Rattle.pim_emit.proofs.ahead.least_ahead.Given as goal

-- the least of the ports before this one
abbrev pub invariant-loop-port : goal.invariant-loop-port
invariant-loop-port g l = AreLeastBelow l.port l.nexts (option_map (least_seen g.F.Family.bytes_of) l.least)
