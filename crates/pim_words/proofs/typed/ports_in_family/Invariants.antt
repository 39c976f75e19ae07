use Rattle.pim_words.proofs.Words.{drop, is_in, port_seen}
use Rattle.pim_words.proofs.OneFamily.{IsSoFar}
use Rattle.pim_words.proofs.typed.ports_in_family.Given as goal

abbrev pub invariant-loop-port : goal.invariant-loop-port
invariant-loop-port g l =
    IsSoFar (λ port. is_in g.F.Family.family port.address) (port_seen g.F.Family.family g.F.Family.bytes_of) l.ports (drop l.port-index l.ports) l.typed.items
