use Rattle.pim_change.proofs.Words.{◌∙◌, Some, sym, ap, nat_cmp, slice_cmp}
use Rattle.pim_change.proofs.StarsFit.{fits_less, fits_equal, big_equal, fits_greater, big_greater, fits_gone}
use Rattle.pim_change.proofs.fitting.too_big.Goals as goal

pub returns-in_default-split_first : goal.returns-in_default-split_first
returns-in_default-split_first g c =
    fits_gone g.F.Family.family c.args.budget c.loop-old.left c.loop-old.right _ c.in_default-split_first.ensures
    c.loop-old.invariant

pub loop-old-preserved-in-Less : goal.loop-old-preserved-in-Less
loop-old-preserved-in-Less g c =
    fits_less g.F.Family.family c.args.budget c.loop-old.left c.in-Some.left_behind c.loop-old.right
    c.in-Some-split_first.right_behind c.in-Some.old c.in-Some-split_first.new _
    c.in-Some.ensures c.in-Some-split_first.ensures c.loop-old.invariant
    ((λ i. slice_cmp nat_cmp (sym c.group.ensures i) (sym c.group-in-Some.ensures i)) ∙ sym
    (g.met.F.Family.order_of_bytes c.group.result c.group-in-Some.result) ∙ sym c.in-Less.ensures)

pub returns-then-not-star_change_fits : goal.returns-then-not-star_change_fits
returns-then-not-star_change_fits g c =
    ap Some c.group-then-not-star_change_fits.ensures
    ∙ big_equal g.F.Family.family c.args.budget c.loop-old.left c.in-Some.left_behind c.loop-old.right
    c.in-Some-split_first.right_behind c.in-Some.old c.in-Some-split_first.new _
    c.in-Some.ensures c.in-Some-split_first.ensures c.loop-old.invariant
    ((λ i. slice_cmp nat_cmp (sym c.group.ensures i) (sym c.group-in-Some.ensures i)) ∙ sym
    (g.met.F.Family.order_of_bytes c.group.result c.group-in-Some.result)
    ∙ sym c.in-Equal.ensures) (sym c.star_change_fits.ensures ∙ c.if-not-star_change_fits.true)

pub loop-old-preserved-in-Equal : goal.loop-old-preserved-in-Equal
loop-old-preserved-in-Equal g c =
    fits_equal g.F.Family.family c.args.budget c.loop-old.left c.in-Some.left_behind c.loop-old.right
    c.in-Some-split_first.right_behind c.in-Some.old c.in-Some-split_first.new _
    c.in-Some.ensures c.in-Some-split_first.ensures c.loop-old.invariant
    ((λ i. slice_cmp nat_cmp (sym c.group.ensures i) (sym c.group-in-Some.ensures i)) ∙ sym
    (g.met.F.Family.order_of_bytes c.group.result c.group-in-Some.result)
    ∙ sym c.in-Equal.ensures) (sym c.star_change_fits.ensures ∙ c.if-not-star_change_fits.false)

pub returns-then-not-star_fits : goal.returns-then-not-star_fits
returns-then-not-star_fits g c =
    ap Some c.group-then-not-star_fits.ensures
    ∙ big_greater g.F.Family.family c.args.budget c.loop-old.left c.in-Some.left_behind c.loop-old.right
    c.in-Some-split_first.right_behind c.in-Some.old c.in-Some-split_first.new _
    c.in-Some.ensures c.in-Some-split_first.ensures c.loop-old.invariant
    ((λ i. slice_cmp nat_cmp (sym c.group.ensures i) (sym c.group-in-Some.ensures i)) ∙ sym
    (g.met.F.Family.order_of_bytes c.group.result c.group-in-Some.result)
    ∙ sym c.in-Greater.ensures) (sym c.star_fits.ensures ∙ c.if-not-star_fits.true)

pub loop-old-preserved : goal.loop-old-preserved
loop-old-preserved g c =
    fits_greater g.F.Family.family c.args.budget c.loop-old.left c.in-Some.left_behind c.loop-old.right
    c.in-Some-split_first.right_behind c.in-Some.old c.in-Some-split_first.new _
    c.in-Some.ensures c.in-Some-split_first.ensures c.loop-old.invariant
    ((λ i. slice_cmp nat_cmp (sym c.group.ensures i) (sym c.group-in-Some.ensures i)) ∙ sym
    (g.met.F.Family.order_of_bytes c.group.result c.group-in-Some.result)
    ∙ sym c.in-Greater.ensures) (sym c.star_fits.ensures ∙ c.if-not-star_fits.false)
