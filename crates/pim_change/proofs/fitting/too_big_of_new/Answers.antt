use Rattle.pim_change.proofs.Words.{◌∙◌, [], Some, sym, ap, subst, change, too_big}
use Rattle.pim_change.proofs.StarsFit.{IsFitting, came_fitting, fits_came, big_came, none_came}
use Rattle.pim_change.proofs.fitting.too_big_of_new.Goals as goal

pub loop-new-init : goal.loop-new-init
loop-new-init g c =
    subst (λ groups. IsFitting g.F.Family.family c.args.budget [] groups
    (too_big g.F.Family.family c.args.budget (change [] c.args.groups)))
    (sym c.into_iter-new-iterator.ensures.into_iter_gives)
    (came_fitting g.F.Family.family c.args.budget c.args.groups c.requires)

pub returns-then-not-star_fits : goal.returns-then-not-star_fits
returns-then-not-star_fits g c =
    ap Some c.group.ensures ∙ big_came g.F.Family.family c.args.budget c.loop-new.new-iterator c.next.new.self
    c.in-Some.new _ c.in-Some.ensures.steps c.loop-new.invariant (sym c.star_fits.ensures ∙ c.if-not-star_fits.true)

pub loop-new-preserved : goal.loop-new-preserved
loop-new-preserved g c =
    fits_came g.F.Family.family c.args.budget c.loop-new.new-iterator c.next.new.self c.in-Some.new _
    c.in-Some.ensures.steps c.loop-new.invariant (sym c.star_fits.ensures ∙ c.if-not-star_fits.false)

pub returns : goal.returns
returns g c = none_came g.F.Family.family c.args.budget c.loop-new.new-iterator _ c.in-None.ensures.steps.0
    c.loop-new.invariant
