use Rattle.pim_form.proofs.Words.{◌+◌, arith, refl, IfOk-weaker}
use Rattle.pim_form.specs.Filling.{star_entries, place_sources}
use Rattle.pim_form.proofs.PlanCuts.{goes_next, within_of, few_of, room_behind, few_entries, carries}
use Rattle.pim_form.proofs.filling.add.Goals as goal

pub has_at_most-requires-clause-sources : goal.has_at_most-requires-clause-sources
has_at_most-requires-clause-sources g c = (within_of g.F.Family.bytes_of g.F.Family.family c.args.budget c.args.place.now c.args.filling.now c.requires.next).0

pub has_at_most-requires-clause-within : goal.has_at_most-requires-clause-within
has_at_most-requires-clause-within g c = (within_of g.F.Family.bytes_of g.F.Family.family c.args.budget c.args.place.now c.args.filling.now c.requires.next).1

pub has_at_most-requires-clause-exceptions : goal.has_at_most-requires-clause-exceptions
has_at_most-requires-clause-exceptions g c = few_of g.F.Family.bytes_of g.F.Family.family c.args.budget c.args.place.now c.args.filling.now c.requires.next c.requires.budget

pub push-requires-clause-sources : goal.push-requires-clause-sources
push-requires-clause-sources g c = (within_of g.F.Family.bytes_of g.F.Family.family c.args.budget c.args.place.now c.args.filling.now c.requires.next).0

pub push-requires-clause-exceptions : goal.push-requires-clause-exceptions
push-requires-clause-exceptions g c = (within_of g.F.Family.bytes_of g.F.Family.family c.args.budget c.args.place.now c.args.filling.now c.requires.next).1

pub push-requires-clause-groups : goal.push-requires-clause-groups
push-requires-clause-groups g c =
    let room = room_behind g.F.Family.bytes_of g.F.Family.family c.args.budget c.args.place.now c.args.filling.now c.requires.next c.fitting.result c.fitting.ensures ((c.if-has_at_most.ensures {u = tt}).0 refl) in
    omega (arith, room.1)

pub push-requires-clause-entries : goal.push-requires-clause-entries
push-requires-clause-entries g c =
    let room = room_behind g.F.Family.bytes_of g.F.Family.family c.args.budget c.args.place.now c.args.filling.now c.requires.next c.fitting.result c.fitting.ensures ((c.if-has_at_most.ensures {u = tt}).0 refl) in
    few_entries g.F.Family.family c.args.budget (c.args.filling.now.groups + 1) (c.args.filling.now.entries + (star_entries c.args.place.now + place_sources c.args.place.now)) room c.requires.budget

pub returns-then-has_at_most : goal.returns-then-has_at_most
returns-then-has_at_most g c =
    let room = room_behind g.F.Family.bytes_of g.F.Family.family c.args.budget c.args.place.now c.args.filling.now c.requires.next c.fitting.result c.fitting.ensures ((c.if-has_at_most.ensures {u = tt}).0 refl) in
    IfOk-weaker c.push.result _ _ (λ x. carries g.F.Family.bytes_of g.F.Family.family c.args.budget c.args.place.now c.args.place.now c.args.filling.now c.args.filling.now c.push.new.self
    (λ row places left filling. filling) room) c.push.ensures

pub push-requires-2-clause-sources : goal.push-requires-2-clause-sources
push-requires-2-clause-sources g c =
    let next = goes_next g.F.Family.bytes_of g.F.Family.family c.args.budget c.args.place.now c.in_ok-last.last c.args.filling.now c.fill.new.filling c.requires.next c.in_ok-last.ensures.filled in
    (within_of g.F.Family.bytes_of g.F.Family.family c.args.budget c.in_ok-last.last c.fill.new.filling next).0

pub push-requires-2-clause-exceptions : goal.push-requires-2-clause-exceptions
push-requires-2-clause-exceptions g c =
    let next = goes_next g.F.Family.bytes_of g.F.Family.family c.args.budget c.args.place.now c.in_ok-last.last c.args.filling.now c.fill.new.filling c.requires.next c.in_ok-last.ensures.filled in
    (within_of g.F.Family.bytes_of g.F.Family.family c.args.budget c.in_ok-last.last c.fill.new.filling next).1

pub returns : goal.returns
returns g c =
    IfOk-weaker c.push-2.result _ _ (λ x. carries g.F.Family.bytes_of g.F.Family.family c.args.budget c.args.place.now c.in_ok-last.last c.args.filling.now c.fill.new.filling c.push-2.new.self
    c.in_ok-last.ensures.filled c.in_ok-last.ensures.fits) c.push-2.ensures
