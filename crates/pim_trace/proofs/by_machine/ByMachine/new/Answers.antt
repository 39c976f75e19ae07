use Rattle.pim_trace.proofs.Machines.{order_none}
use Rattle.pim_trace.proofs.by_machine.ByMachine.new.Goals as goal

pub invariant_of-result : goal.invariant_of-result
invariant_of-result g c = order_none g.F.Family.bytes_of c.new.result.items c.new.ensures
