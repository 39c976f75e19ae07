use Rattle.pim_trace.proofs.Words.{subst, IsPlaceFor}
use Rattle.pim_trace.proofs.Machines.{value_is, no_value}
use Rattle.pim_trace.proofs.by_machine.value_at.Goals as goal

pub returns-in-Ok : goal.returns-in-Ok
returns-in-Ok g c =
    let bytes_of = g.F.Family.bytes_of in
    value_is bytes_of c.args.list.now c.args.key.now c.requires.order c.in-Ok.place
    (subst (IsPlaceFor bytes_of c.args.key.now c.args.list.now) c.in-Ok.is c.requires.found) c.get.result.now c.get.ensures

pub returns-in-Err : goal.returns-in-Err
returns-in-Err g c =
    let bytes_of = g.F.Family.bytes_of in
    no_value bytes_of c.args.list.now c.args.key.now c.requires.order c.in-Err.field-0
    (subst (IsPlaceFor bytes_of c.args.key.now c.args.list.now) c.in-Err.is c.requires.found)
