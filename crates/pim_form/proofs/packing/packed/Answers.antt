use Rattle.pim_form.proofs.Words.{◌≡◌, ◌∙◌, ℕ, List, ap, Result, Ok, Err, IfOk, subst, sym, map, rp_of, AllByRecursion}
use Rattle.pim_form.proofs.Words.{GroupForm, units_of, form_seen, IsPlan, parts_from, run_of, PartHasRps, HaveRps}
use Rattle.pim_form.proofs.Words.{CarryRuns, AreCanonical, IsPacking}
use Rattle.pim_form.proofs.PlannedParts.{plan_fits, plan_has_rps}
use Rattle.pim_form.proofs.packing.packed.Goals as goal

pub write_plan-requires-clause-parts : goal.write_plan-requires-clause-parts
write_plan-requires-clause-parts g c =
    let bytes_of = g.F.Family.bytes_of in
    let family = g.F.Family.family in
    let pieces = c.in_ok-plan.plan.pieces.items in
    let ends = c.in_ok-plan.plan.ends.items in
    let same = subst (λ (row : List _). IsPlan bytes_of family c.budget.result row c.deref-2.result.now pieces ends) (c.deref.ensures.value ∙ sym c.deref-3.ensures.value) c.in_ok-plan.ensures in
    let plan = subst (λ (budget : ℕ). IsPlan bytes_of family budget c.deref-3.result.now c.deref-2.result.now pieces ends) c.budget.ensures same in
    plan_fits bytes_of family c.deref-3.result.now c.args.writer.now.budget c.deref-2.result.now pieces ends plan

pub write_plan-requires-clause-rps : goal.write_plan-requires-clause-rps
write_plan-requires-clause-rps g c =
    let bytes_of = g.F.Family.bytes_of in
    let family = g.F.Family.family in
    let rps = rp_of family c.args.routes.now in
    let pieces = c.in_ok-plan.plan.pieces.items in
    let ends = c.in_ok-plan.plan.ends.items in
    let inside = c.normal.inside in
    let same = subst (λ (row : List _). IsPlan bytes_of family c.budget.result row c.deref-2.result.now pieces ends) c.deref.ensures.value c.in_ok-plan.ensures in
    let plan = subst (λ (places : List _). IsPlan bytes_of family c.budget.result inside.row.items places pieces ends) c.deref-2.ensures.value same in
    let have = subst (HaveRps family rps) (sym c.normal.view_is) c.requires.rps in
    let all = plan_has_rps bytes_of family inside.row.items c.budget.result inside.places.items pieces ends plan rps c.normal.invariant.normal have in
    subst (λ (row : List _). AllByRecursion (PartHasRps bytes_of family rps row) (parts_from 0 ends pieces)) (sym c.deref-3.ensures.value) all

if_ok : {T E : Type 0} (P Q : T → Type 0) → ((x : T) → P x → Q x) → (r : Result T E) → IfOk r P → IfOk r Q
if_ok P Q step (Ok x) is = step x is
if_ok P Q step (Err e) is = tt

pub returns : goal.returns
returns g c =
    let bytes_of = g.F.Family.bytes_of in
    let family = g.F.Family.family in
    let rps = rp_of family c.args.routes.now in
    let pieces = c.in_ok-plan.plan.pieces.items in
    let ends = c.in_ok-plan.plan.ends.items in
    let inside = c.normal.inside in
    let same = subst (λ (row : List _). IsPlan bytes_of family c.budget.result row c.deref-2.result.now pieces ends) (c.deref.ensures.value ∙ sym c.deref-3.ensures.value) c.in_ok-plan.ensures in
    let plan = subst (λ (budget : ℕ). IsPlan bytes_of family budget c.deref-3.result.now c.deref-2.result.now pieces ends) c.budget.ensures same in
    let form : form_seen bytes_of c.deref-3.result.now c.deref-2.result.now ≡ c.args.normal.now =
    ap (λ (row : List _). form_seen bytes_of row c.deref-2.result.now) c.deref-3.ensures.value ∙ ap (form_seen bytes_of inside.row.items) c.deref-2.ensures.value ∙ c.normal.view_is in
    let runs = map (run_of bytes_of c.deref-3.result.now) (parts_from 0 ends pieces) in
    let packing : IsPacking family c.args.writer.now.budget (units_of c.args.normal.now) runs =
    subst (λ (form : List GroupForm). IsPacking family c.args.writer.now.budget (units_of form) runs) form plan.packing in
    if_ok (λ messages. CarryRuns family c.args.writer.now rps runs messages) (λ messages. AreCanonical family c.args.writer.now rps c.args.normal.now messages)
    (λ messages reported. record { runs = runs; packing = packing; reported = reported }) c.write_plan.result c.write_plan.ensures
