use Rattle.pim_merge.proofs.Words.{◌∙◌, ap, sym, arith}
use Rattle.pim_merge.specs.Slots.{takes}
use Rattle.pim_merge.proofs.Places.{place_here, place_later, place_none}
use Rattle.pim_merge.proofs.slots.place_of.Goals as goal

pub returns-then-takes : goal.returns-then-takes
returns-then-takes g c = place_here (g.T.Item.same c.args.item) c.args.slots.now c.loop-slot.slot-index c.loop-slot.place _ c.slot-item.result c.loop-slot-test.true
    (ap (takes (g.T.Item.same c.args.item)) (sym c.slot-item.is) ∙ sym c.takes.ensures ∙ c.if-takes.true) c.loop-slot.invariant.1

pub loop-slot-preserved : goal.loop-slot-preserved
loop-slot-preserved g c = (
  omega (arith, c.loop-slot.invariant.0),
  place_later (g.T.Item.same c.args.item) c.args.slots.now c.loop-slot.slot-index c.loop-slot.place _ c.slot-item.result c.loop-slot-test.true
      (ap (takes (g.T.Item.same c.args.item)) (sym c.slot-item.is) ∙ sym c.takes.ensures ∙ c.if-takes.false) c.loop-slot.invariant.1,
)

pub returns : goal.returns
returns g c = place_none (g.T.Item.same c.args.item) c.args.slots.now c.loop-slot.slot-index c.loop-slot.place _ c.loop-slot-test.false c.loop-slot.invariant.1
