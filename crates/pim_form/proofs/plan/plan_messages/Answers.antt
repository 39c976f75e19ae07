use Rattle.pim_form.proofs.Words.{◌≡◌, ◌∙◌, ℕ, ◌+◌, ◌<◌, List, [], ◌∷◌, length, drop, get_or, sym, ap, subst, add-one}
use Rattle.pim_form.proofs.Words.{drop-cons, IfOk-weaker, drop_of_length-le, GroupPlace, IsFilling}
use Rattle.pim_form.proofs.PlanFilling.{starts}
use Rattle.pim_form.proofs.plan.plan_messages.Goals as goal

drop_first : {A : Type 0} (xs : List A) (i : ℕ) (x : A) → i < length xs → x ≡ get_or xs i x → drop i xs ≡ x ∷ drop (i + 1) xs
drop_first {A} xs i x below is =
    let head : get_or xs i x ∷ drop (i + 1) xs ≡ x ∷ drop (i + 1) xs = ap (λ (y : A). y ∷ drop (i + 1) xs) (sym is) in
    (rw (add-one i) (drop-cons xs i x below)) ∙ head

pub loop-place-init : goal.loop-place-init
loop-place-init g c =
    subst (IsFilling g.F.Family.bytes_of g.F.Family.family c.args.budget c.args.row.now c.args.places.now c.args.places.now) (sym (c.in_ok-filling.ensures {u = tt}))
    (starts g.F.Family.bytes_of g.F.Family.family c.args.budget c.args.row.now c.args.places.now c.requires.kept c.requires.fits c.requires.least)

pub add-requires-clause-next : goal.add-requires-clause-next
add-requires-clause-next g c =
    let left = drop_first c.args.places.now c.loop-place.place-index c.place-item.result c.loop-place-test.true c.place-item.is in
    record {
      row = c.args.row.now;
      places = c.args.places.now;
      left = drop (c.loop-place.place-index + 1) c.args.places.now;
      filling = subst (λ (xs : List (GroupPlace g.row.F-Addr.Denot)). IsFilling g.F.Family.bytes_of g.F.Family.family c.args.budget c.args.row.now c.args.places.now xs c.loop-place.filling) left c.loop-place.invariant;
    }

pub loop-place-preserved : goal.loop-place-preserved
loop-place-preserved g c =
    let left = drop_first c.args.places.now c.loop-place.place-index c.place-item.result c.loop-place-test.true c.place-item.is in
    c.in_ok-add.ensures {u = tt} c.args.row.now c.args.places.now (drop (c.loop-place.place-index + 1) c.args.places.now)
    (subst (λ (xs : List (GroupPlace g.row.F-Addr.Denot)). IsFilling g.F.Family.bytes_of g.F.Family.family c.args.budget c.args.row.now c.args.places.now xs c.loop-place.filling) left c.loop-place.invariant)

pub returns : goal.returns
returns g c =
    let bytes_of = g.F.Family.bytes_of in
    let family = g.F.Family.family in
    let row = c.args.row.now in
    let places = c.args.places.now in
    let done : drop c.loop-place.place-index places ≡ [] = drop_of_length-le places c.loop-place-test.false in
    let filling = subst (λ (xs : List (GroupPlace g.row.F-Addr.Denot)). IsFilling bytes_of family c.args.budget row places xs c.loop-place.filling) done c.loop-place.invariant in
    IfOk-weaker c.finish.result _ _ (λ plan goes. goes c.args.budget row places filling) c.finish.ensures
