use Rattle.std.proofs.Common.{◌∙◌, ap, sym, option_map}
use Rattle.pim_merge.proofs.CensusSteps.{group_here, group_later, no_group}
use Rattle.pim_merge.proofs.census.first_without_rp.Goals as goal

pub returns-in-Some : goal.returns-in-Some
returns-in-Some g c =
    group_here g.F.Family.family c.args.routes.now c.args.slots.now c.loop-slot.slot-index _ _ _ c.loop-slot-test.true
    (sym c.group_without_rp.ensures ∙ ap (option_map g.F.Family.bytes_of) c.in-Some.is) c.loop-slot.invariant

pub loop-slot-preserved : goal.loop-slot-preserved
loop-slot-preserved g c =
    group_later g.F.Family.family c.args.routes.now c.args.slots.now c.loop-slot.slot-index _ _ c.loop-slot-test.true
    (sym c.group_without_rp.ensures ∙ ap (option_map g.F.Family.bytes_of) c.in_default.is) c.loop-slot.invariant

pub returns : goal.returns
returns g c = no_group g.F.Family.family c.args.routes.now c.args.slots.now c.loop-slot.slot-index _ c.loop-slot-test.false c.loop-slot.invariant
