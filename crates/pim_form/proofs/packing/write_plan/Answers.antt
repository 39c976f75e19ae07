use Rattle.pim_form.proofs.Words.{◌≡◌, ◌∙◌, ◌+◌, List, length, get_or, drop, ap, subst, arith, rp_of, CarriesRun}
use Rattle.pim_form.proofs.Words.{between, run_of, IsFitting, PartHasRps}
use Rattle.pim_form.proofs.PlanParts.{next_part, of_next, no_end, of_others, one_more_told, no_more_told, part_tells}
use Rattle.pim_form.proofs.packing.write_plan.Goals as goal

pub between-part-requires-clause-start : goal.between-part-requires-clause-start
between-part-requires-clause-start g c =
    let at = next_part c.args.plan.now.pieces.items c.deref-end-items.result.now c.args.plan.now.ends.items c.loop-end.end-index c.loop-end.start c.deref-end-items.ensures.value c.loop-end-test.true c.loop-end.invariant.ends in
    at.above

pub between-part-requires-clause-end : goal.between-part-requires-clause-end
between-part-requires-clause-end g c =
    let at = next_part c.args.plan.now.pieces.items c.deref-end-items.result.now c.args.plan.now.ends.items c.loop-end.end-index c.loop-end.start c.deref-end-items.ensures.value c.loop-end-test.true c.loop-end.invariant.ends in
    omega (arith, at.within, ap length c.deref.ensures.value)

pub add-requires-clause-kept : goal.add-requires-clause-kept
add-requires-clause-kept g c =
    let is = of_next c.args.plan.now.pieces.items c.deref-end-items.result.now c.args.plan.now.ends.items c.loop-end.end-index c.loop-end.start c.deref-end-items.ensures.value c.loop-end-test.true
    (IsFitting g.F.Family.bytes_of g.F.Family.family c.args.writer.now.budget c.args.row.now) c.loop-end.invariant.parts _ _ c.deref.ensures.value c.between-part.ensures in
    is.kept

pub add-requires-clause-rps : goal.add-requires-clause-rps
add-requires-clause-rps g c =
    of_next c.args.plan.now.pieces.items c.deref-end-items.result.now c.args.plan.now.ends.items c.loop-end.end-index c.loop-end.start c.deref-end-items.ensures.value c.loop-end-test.true
    (PartHasRps g.F.Family.bytes_of g.F.Family.family (rp_of g.F.Family.family c.args.routes.now) c.args.row.now) c.loop-end.invariant.rps
    _ _ c.deref.ensures.value c.between-part.ensures

pub add-requires-clause-fitting : goal.add-requires-clause-fitting
add-requires-clause-fitting g c =
    let is = of_next c.args.plan.now.pieces.items c.deref-end-items.result.now c.args.plan.now.ends.items c.loop-end.end-index c.loop-end.start c.deref-end-items.ensures.value c.loop-end-test.true
    (IsFitting g.F.Family.bytes_of g.F.Family.family c.args.writer.now.budget c.args.row.now) c.loop-end.invariant.parts _ _ c.deref.ensures.value c.between-part.ensures in
    is.fitting

pub loop-end-preserved : goal.loop-end-preserved
loop-end-preserved g c =
    let pieces = c.args.plan.now.pieces.items in
    let end = get_or c.deref-end-items.result.now c.loop-end.end-index 0 in
    let left = drop c.loop-end.end-index c.args.plan.now.ends.items in
    let others = drop (c.loop-end.end-index + 1) c.args.plan.now.ends.items in
    let at = next_part c.args.plan.now.pieces.items c.deref-end-items.result.now c.args.plan.now.ends.items c.loop-end.end-index c.loop-end.start c.deref-end-items.ensures.value c.loop-end-test.true c.loop-end.invariant.ends in
    let is = of_next c.args.plan.now.pieces.items c.deref-end-items.result.now c.args.plan.now.ends.items c.loop-end.end-index c.loop-end.start c.deref-end-items.ensures.value c.loop-end-test.true
    (IsFitting g.F.Family.bytes_of g.F.Family.family c.args.writer.now.budget c.args.row.now) c.loop-end.invariant.parts _ _ c.deref.ensures.value c.between-part.ensures in
    let added = c.in_ok-add.ensures in
    let bytes_of = g.F.Family.bytes_of in
    let family = g.F.Family.family in
    let rps = rp_of family c.args.routes.now in
    let run = run_of bytes_of c.args.row.now in
    let part : c.between-part.result.now ≡ between c.loop-end.start end pieces = c.between-part.ensures ∙ ap (between c.loop-end.start end) c.deref.ensures.value in
    let carries = subst (λ (these : List _). CarriesRun family c.args.writer.now rps (run these) added.message) part
    (part_tells bytes_of family c.args.writer.now rps c.args.row.now c.between-part.result.now added.message is.kept added.carries) in
    record {
      ends = at.behind;
      parts = of_others pieces c.loop-end.start end left others at.next (IsFitting bytes_of family c.args.writer.now.budget c.args.row.now) c.loop-end.invariant.parts;
      rps = of_others pieces c.loop-end.start end left others at.next (PartHasRps bytes_of family rps c.args.row.now) c.loop-end.invariant.rps;
      reported = one_more_told pieces c.loop-end.start end left others at.next family run c.args.writer.now rps _ c.loop-end.messages _ added.message added.more carries c.loop-end.invariant.reported;
    }

pub returns : goal.returns
returns g c =
    let plan = c.args.plan.now in
    let none = no_end c.deref-end-items.result.now plan.ends.items c.loop-end.end-index c.deref-end-items.ensures.value c.loop-end-test.false in
    no_more_told plan.pieces.items c.loop-end.start (drop c.loop-end.end-index plan.ends.items) none g.F.Family.family (run_of g.F.Family.bytes_of c.args.row.now) c.args.writer.now
    (rp_of g.F.Family.family c.args.routes.now) _ c.loop-end.messages c.loop-end.invariant.reported
