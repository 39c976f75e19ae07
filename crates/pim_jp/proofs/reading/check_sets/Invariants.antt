use Rattle.pim_jp.proofs.SetLoop.{SetsReached}
use Rattle.pim_jp.proofs.reading.check_sets.Given as goal

abbrev pub invariant-loop : goal.invariant-loop
invariant-loop g l = SetsReached g.F.Family.family l.fn.count l.fn.at l.fn.bytes l.counter l.at l.left
