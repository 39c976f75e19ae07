use Rattle.pim_form.proofs.Words.{List, ℕ, ◌≡◌, ◌∙◌, sym, subst, true, rp_of, GroupForm, IsFormOf, form_wants, via_of}
use Rattle.pim_form.proofs.Words.{toward, is_toward}
use Rattle.pim_form.proofs.KeptForm.{form_left, left_is_toward}
use Rattle.pim_form.proofs.KeptLoop.{HasKept, starts, steps, ends, kept}
use Rattle.pim_form.proofs.kept_toward.kept_toward.Goals as goal

pub loop-this-init : goal.loop-this-init
loop-this-init g c =
    subst (λ (left : List GroupForm). HasKept g.F.Family.bytes_of (rp_of g.F.Family.family c.args.routes.now) (via_of g.F.Family.family c.args.routes.now)
    (g.F.Family.bytes_of c.args.upstream) c.new-row.result.items c.new-places.result.items left c.args.normal.now)
    (sym c.groups-this-items.ensures ∙ sym c.into_iter-this-iterator.ensures.into_iter_gives)
    (starts g.F.Family.bytes_of _ _ _ c.new-row.result.items c.new-places.result.items c.args.normal.now c.new-places.ensures.items)

pub loop-this-preserved : goal.loop-this-preserved
loop-this-preserved g c =
    steps g.F.Family.bytes_of _ _ _ c.loop-this.row.items c.push_group.new.row.items c.loop-this.places.items _ _ c.next.new.self c.args.normal.now
    c.in-Some.this c.in_ok-place.place c.loop-this.invariant c.in-Some.ensures.steps c.in_ok-place.ensures c.in_ok-push_place.ensures

pub invariant_of-result : goal.invariant_of-result
invariant_of-result g c =
    kept g.F.Family.bytes_of _ _ _ g.F.Family.family c.loop-this.row.items c.loop-this.places.items _ c.args.normal.now
    c.loop-this.invariant c.in-None.ensures.steps.0 c.is_normal.ensures

pub returns-clause-meaning : goal.returns-clause-meaning
returns-clause-meaning g c =
    let family = g.F.Family.family in
    let rps = rp_of family c.args.routes.now in
    let via = via_of family c.args.routes.now in
    let upstream : List ℕ = g.F.Family.bytes_of c.args.upstream in
    subst (IsFormOf family (toward rps via upstream (form_wants c.args.normal.now)))
    (sym (ends g.F.Family.bytes_of rps via upstream c.loop-this.row.items c.loop-this.places.items _ c.args.normal.now c.loop-this.invariant c.in-None.ensures.steps.0))
    (form_left rps via upstream family c.args.normal.now c.is_normal.ensures)

pub returns-clause-only : goal.returns-clause-only
returns-clause-only g c =
    let family = g.F.Family.family in
    let rps = rp_of family c.args.routes.now in
    let via = via_of family c.args.routes.now in
    let upstream : List ℕ = g.F.Family.bytes_of c.args.upstream in
    subst (λ (form : List GroupForm). is_toward rps via upstream form ≡ true)
    (sym (ends g.F.Family.bytes_of rps via upstream c.loop-this.row.items c.loop-this.places.items _ c.args.normal.now c.loop-this.invariant c.in-None.ensures.steps.0))
    (left_is_toward rps via upstream c.args.normal.now)
