use Rattle.pim_form.proofs.Words.{◌≡◌, ◌∙◌, ◌+◌, ◌≤◌, List, length, get_or, drop, sym, ap, subst, arith, GroupForm}
use Rattle.pim_form.proofs.Words.{IsNormal, units_of, run_groups, run_size, between, run_of, IsFitting}
use Rattle.pim_form.proofs.OnePacking.{fits_parts}
use Rattle.pim_form.proofs.PlanParts.{next_part, of_next, no_end, of_others, one_more_run, no_more_run}
use Rattle.pim_form.proofs.packing.total_length.Goals as goal

pub between-part-requires-clause-start : goal.between-part-requires-clause-start
between-part-requires-clause-start g c =
    let at = next_part c.args.plan.now.pieces.items c.deref-end-items.result.now c.args.plan.now.ends.items c.loop-end.end-index c.loop-end.start c.deref-end-items.ensures.value c.loop-end-test.true c.loop-end.invariant.ends in
    at.above

pub between-part-requires-clause-end : goal.between-part-requires-clause-end
between-part-requires-clause-end g c =
    let at = next_part c.args.plan.now.pieces.items c.deref-end-items.result.now c.args.plan.now.ends.items c.loop-end.end-index c.loop-end.start c.deref-end-items.ensures.value c.loop-end-test.true c.loop-end.invariant.ends in
    omega (arith, at.within, ap length c.deref.ensures.value)

pub new-requires : goal.new-requires
new-requires g c =
    let is = of_next c.args.plan.now.pieces.items c.deref-end-items.result.now c.args.plan.now.ends.items c.loop-end.end-index c.loop-end.start c.deref-end-items.ensures.value c.loop-end-test.true
    (IsFitting g.F.Family.bytes_of g.F.Family.family c.args.writer.now.budget c.args.row.now) c.loop-end.invariant.parts _ _ c.deref.ensures.value c.between-part.ensures in
    (is.kept.within, is.kept.normal.groups)

pub message_length-length-requires-clause-normal : goal.message_length-length-requires-clause-normal
message_length-length-requires-clause-normal g c =
    let is = of_next c.args.plan.now.pieces.items c.deref-end-items.result.now c.args.plan.now.ends.items c.loop-end.end-index c.loop-end.start c.deref-end-items.ensures.value c.loop-end-test.true
    (IsFitting g.F.Family.bytes_of g.F.Family.family c.args.writer.now.budget c.args.row.now) c.loop-end.invariant.parts _ _ c.deref.ensures.value c.between-part.ensures in
    subst (IsNormal g.F.Family.family) (sym c.new.ensures) is.kept.normal

pub message_length-length-requires-clause-groups : goal.message_length-length-requires-clause-groups
message_length-length-requires-clause-groups g c =
    let is = of_next c.args.plan.now.pieces.items c.deref-end-items.result.now c.args.plan.now.ends.items c.loop-end.end-index c.loop-end.start c.deref-end-items.ensures.value c.loop-end-test.true
    (IsFitting g.F.Family.bytes_of g.F.Family.family c.args.writer.now.budget c.args.row.now) c.loop-end.invariant.parts _ _ c.deref.ensures.value c.between-part.ensures in
    let bounds = fits_parts g.F.Family.family c.args.writer.now.budget (run_of g.F.Family.bytes_of c.args.row.now c.between-part.result.now) is.fitting in
    subst (λ (form : List GroupForm). run_groups (units_of form) ≤ 255) (sym c.new.ensures) bounds.1

pub message_length-length-requires-clause-size : goal.message_length-length-requires-clause-size
message_length-length-requires-clause-size g c =
    let is = of_next c.args.plan.now.pieces.items c.deref-end-items.result.now c.args.plan.now.ends.items c.loop-end.end-index c.loop-end.start c.deref-end-items.ensures.value c.loop-end-test.true
    (IsFitting g.F.Family.bytes_of g.F.Family.family c.args.writer.now.budget c.args.row.now) c.loop-end.invariant.parts _ _ c.deref.ensures.value c.between-part.ensures in
    let bounds = fits_parts g.F.Family.family c.args.writer.now.budget (run_of g.F.Family.bytes_of c.args.row.now c.between-part.result.now) is.fitting in
    subst (λ (form : List GroupForm). run_size g.F.Family.family (units_of form) ≤ 65000) (sym c.new.ensures) (omega (arith, bounds.0, c.is_writing.ensures.most))

pub loop-end-preserved : goal.loop-end-preserved
loop-end-preserved g c =
    let pieces = c.args.plan.now.pieces.items in
    let end = get_or c.deref-end-items.result.now c.loop-end.end-index 0 in
    let left = drop c.loop-end.end-index c.args.plan.now.ends.items in
    let others = drop (c.loop-end.end-index + 1) c.args.plan.now.ends.items in
    let at = next_part c.args.plan.now.pieces.items c.deref-end-items.result.now c.args.plan.now.ends.items c.loop-end.end-index c.loop-end.start c.deref-end-items.ensures.value c.loop-end-test.true c.loop-end.invariant.ends in
    let family = g.F.Family.family in
    let run = run_of g.F.Family.bytes_of c.args.row.now in
    let part : c.between-part.result.now ≡ between c.loop-end.start end pieces = c.between-part.ensures ∙ ap (between c.loop-end.start end) c.deref.ensures.value in
    let length_is : c.message_length-length.result ≡ run_size family (run (between c.loop-end.start end pieces)) =
    c.message_length-length.ensures ∙ ap (λ (form : List GroupForm). run_size family (units_of form)) c.new.ensures ∙ ap (λ (these : List _). run_size family (run these)) part in
    record {
      ends = at.behind;
      parts = of_others pieces c.loop-end.start end left others at.next (IsFitting g.F.Family.bytes_of family c.args.writer.now.budget c.args.row.now) c.loop-end.invariant.parts;
      counted = one_more_run pieces c.loop-end.start end left others at.next family run c.loop-end.total c.message_length-length.result _ _ length_is
          (omega (arith, c.in-Some.ensures)) c.loop-end.invariant.counted;
    }

pub returns : goal.returns
returns g c =
    let plan = c.args.plan.now in
    let none = no_end c.deref-end-items.result.now plan.ends.items c.loop-end.end-index c.deref-end-items.ensures.value c.loop-end-test.false in
    no_more_run plan.pieces.items c.loop-end.start (drop c.loop-end.end-index plan.ends.items) none g.F.Family.family (run_of g.F.Family.bytes_of c.args.row.now) c.loop-end.total _ c.loop-end.invariant.counted
