use Rattle.pim_trace.proofs.Words.{subst, IsPlaceFor}
use Rattle.pim_trace.proofs.Machines.{order_left, holds_left, holds_none}
use Rattle.pim_trace.proofs.by_machine.remove_at.Goals as goal

pub returns-in-Ok-clause-order : goal.returns-in-Ok-clause-order
returns-in-Ok-clause-order g c =
    order_left g.F.Family.bytes_of c.args.list.now c.args.key.now c.requires.order c.in-Ok.place c.remove.new.self.items c.remove.ensures.items

pub returns-in-Ok-clause-left : goal.returns-in-Ok-clause-left
returns-in-Ok-clause-left g c =
    let bytes_of = g.F.Family.bytes_of in
    holds_left bytes_of g.F.Family.address_of g.met.F.Family.put_of_take c.args.list.now c.args.key.now c.requires.order c.in-Ok.place c.remove.new.self.items
    (subst (IsPlaceFor bytes_of c.args.key.now c.args.list.now) c.in-Ok.is c.requires.found) c.remove.result.0 c.remove.ensures.item c.remove.ensures.items

pub returns-in-Err-clause-left : goal.returns-in-Err-clause-left
returns-in-Err-clause-left g c =
    let bytes_of = g.F.Family.bytes_of in
    holds_none bytes_of g.F.Family.address_of g.met.F.Family.put_of_take c.args.list.now c.args.key.now c.requires.order c.in-Err.place c.args.list.now.items
    (subst (IsPlaceFor bytes_of c.args.key.now c.args.list.now) c.in-Err.is c.requires.found)
