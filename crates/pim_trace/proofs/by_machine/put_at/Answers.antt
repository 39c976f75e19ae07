use Rattle.pim_trace.proofs.Words.{◌∙◌, subst, insert, IsPlaceFor}
use Rattle.pim_trace.proofs.Machines.{order_set, holds_set, order_inserted, holds_inserted}
use Rattle.pim_trace.proofs.by_machine.put_at.Goals as goal

pub returns-in-Ok-clause-order : goal.returns-in-Ok-clause-order
returns-in-Ok-clause-order g c =
    let bytes_of = g.F.Family.bytes_of in
    order_set bytes_of c.args.list.now c.args.key c.requires.order c.in-Ok.place
    (subst (IsPlaceFor bytes_of c.args.key c.args.list.now) c.in-Ok.is c.requires.found) c.get.result.now c.get.ensures c.args.value c.set.new.self.items c.set.ensures.items

pub returns-in-Ok-clause-put : goal.returns-in-Ok-clause-put
returns-in-Ok-clause-put g c =
    let bytes_of = g.F.Family.bytes_of in
    holds_set bytes_of g.F.Family.address_of g.met.F.Family.put_of_take c.args.list.now c.args.key c.requires.order c.in-Ok.place c.set.new.self.items
    (subst (IsPlaceFor bytes_of c.args.key c.args.list.now) c.in-Ok.is c.requires.found) c.get.result.now c.get.ensures c.args.value c.set.ensures.items

pub returns-in_ok-reserve-in-Err-clause-order : goal.returns-in_ok-reserve-in-Err-clause-order
returns-in_ok-reserve-in-Err-clause-order g c =
    let bytes_of = g.F.Family.bytes_of in
    let reported = c.in_ok-reserve-in-Err.ensures in
    order_inserted bytes_of c.args.list.now c.args.key c.requires.order c.in-Err.place
    (subst (IsPlaceFor bytes_of c.args.key c.args.list.now) c.in-Err.is c.requires.found) c.args.value c.insert_within-stands.new.self.items
    (c.insert_within-stands.ensures.items ∙ (λ i. insert (reported.items i) (reported.at c.in-Err.place i) (c.args.key, c.args.value)))

pub returns-in_ok-reserve-in-Err-clause-put : goal.returns-in_ok-reserve-in-Err-clause-put
returns-in_ok-reserve-in-Err-clause-put g c =
    let bytes_of = g.F.Family.bytes_of in
    let reported = c.in_ok-reserve-in-Err.ensures in
    holds_inserted bytes_of g.F.Family.address_of g.met.F.Family.put_of_take c.args.list.now c.args.key c.requires.order c.in-Err.place c.insert_within-stands.new.self.items
    (subst (IsPlaceFor bytes_of c.args.key c.args.list.now) c.in-Err.is c.requires.found) c.args.value
    (c.insert_within-stands.ensures.items ∙ (λ i. insert (reported.items i) (reported.at c.in-Err.place i) (c.args.key, c.args.value)))
