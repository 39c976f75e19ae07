use Rattle.pim_merge.proofs.Words.{◌∙◌, ap, not, refl}
use Rattle.pim_merge.proofs.Adding.{add_free, add_held, add_past, fits_not, fits_there}
use Rattle.pim_merge.proofs.slots.add.Goals as goal

pub returns-then-slots-place-clause-slots : goal.returns-then-slots-place-clause-slots
returns-then-slots-place-clause-slots g c = add_past g.T.Item.same c.args.item c.args.slots.now c.place_of-place.result c.place_of-place.ensures c.if-slots-place.true

pub returns-then-slots-place-clause-fits : goal.returns-then-slots-place-clause-fits
returns-then-slots-place-clause-fits g c = fits_not g.T.Item.same c.args.item c.args.slots.now c.place_of-place.result c.place_of-place.ensures c.if-slots-place.true

pub returns-then-is_none-clause-slots : goal.returns-then-is_none-clause-slots
returns-then-is_none-clause-slots g c =
    add_free g.T.Item.same c.args.item c.index-slots-place.result c.args.slots.now _ c.place_of-place.result c.place_of-place.ensures (c.is_none.ensures ∙ ap not c.if-is_none.true) refl

pub returns-else-is_none-clause-slots : goal.returns-else-is_none-clause-slots
returns-else-is_none-clause-slots g c =
    add_held g.T.Item.same c.args.item c.index-slots-place.result c.args.slots.now c.place_of-place.result c.place_of-place.ensures (c.is_none.ensures ∙ ap not c.if-is_none.false)

pub returns-else-is_none-clause-fits : goal.returns-else-is_none-clause-fits
returns-else-is_none-clause-fits g c = fits_there g.T.Item.same c.args.item c.args.slots.now c.place_of-place.result c.place_of-place.ensures c.if-slots-place.false
