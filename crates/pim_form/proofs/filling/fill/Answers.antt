use Rattle.pim_form.proofs.Words.{refl, false≢true}
use Rattle.pim_form.proofs.PlanCuts.{goes_next, within_of, few_of, room_behind, no_room_behind}
use Rattle.pim_form.proofs.filling.fill.Goals as goal

pub loop-filling-init : goal.loop-filling-init
loop-filling-init g c = record {
  goes = c.in_ok-left.ensures.cut;
  next = goes_next g.F.Family.bytes_of g.F.Family.family c.args.budget c.args.place.now c.in_ok-left.left
      c.args.filling.now c.cut.new.filling c.requires.next c.in_ok-left.ensures.cut;
}

pub has_at_most-requires-clause-sources : goal.has_at_most-requires-clause-sources
has_at_most-requires-clause-sources g c =
    (within_of g.F.Family.bytes_of g.F.Family.family c.args.budget c.loop-filling.left c.loop-filling.filling
    c.loop-filling.invariant.next).0

pub has_at_most-requires-clause-within : goal.has_at_most-requires-clause-within
has_at_most-requires-clause-within g c =
    (within_of g.F.Family.bytes_of g.F.Family.family c.args.budget c.loop-filling.left c.loop-filling.filling
    c.loop-filling.invariant.next).1

pub has_at_most-requires-clause-exceptions : goal.has_at_most-requires-clause-exceptions
has_at_most-requires-clause-exceptions g c =
    few_of g.F.Family.bytes_of g.F.Family.family c.args.budget c.loop-filling.left c.loop-filling.filling
    c.loop-filling.invariant.next c.requires.budget

pub cut-requires-in-loop-filling-clause-long : goal.cut-requires-in-loop-filling-clause-long
cut-requires-in-loop-filling-clause-long g c =
    no_room_behind g.F.Family.bytes_of g.F.Family.family c.args.budget c.loop-filling.left c.loop-filling.filling
    c.loop-filling.invariant.next c.fitting.result c.fitting.ensures
    (λ whole. false≢true ((c.loop-filling-test.ensures {u = tt}).1 whole))

pub loop-filling-preserved : goal.loop-filling-preserved
loop-filling-preserved g c = record {
  goes = λ row places left filling.
      c.in_ok-left-2.ensures.cut row places left (c.loop-filling.invariant.goes row places left filling);
  next = goes_next g.F.Family.bytes_of g.F.Family.family c.args.budget c.loop-filling.left c.in_ok-left-2.left
      c.loop-filling.filling c.cut-in-loop-filling.new.filling c.loop-filling.invariant.next c.in_ok-left-2.ensures.cut;
}

pub returns-clause-fits : goal.returns-clause-fits
returns-clause-fits g c =
    room_behind g.F.Family.bytes_of g.F.Family.family c.args.budget c.loop-filling.left c.loop-filling.filling
    c.loop-filling.invariant.next c.fitting.result c.fitting.ensures ((c.loop-filling-test.ensures {u = tt}).0 refl)
