use Rattle.std.proofs.Common.{refl, sym, ◌∙◌}
use Rattle.std.proofs.lemmas.List.Sorted.{IsPermutation-refl}
use Rattle.pim_audit.proofs.Lateness.{fewer_late, marked_none, marked_on, taken_on}
use Rattle.pim_audit.proofs.look.report_late.Goals as goal

pub loop-held-init : goal.loop-held-init
loop-held-init g c = record {
  dues = refl;
  late = rw c.new-late.ensures.items (IsPermutation-refl _);
}

pub loop-held-smaller : goal.loop-held-smaller
loop-held-smaller g c =
    fewer_late g.F.Family.bytes_of c.args.moment c.args.grace c.in-Some.held c.loop-held.dues c.take_late.new.self
    c.in-Some.ensures.late c.in-Some.ensures.order c.in-Some.ensures.held c.in-Some.ensures.reported

pub loop-held-preserved : goal.loop-held-preserved
loop-held-preserved g c =
    let bytes_of = g.F.Family.bytes_of in
    let held = c.in-Some.held in
    record {
      dues = marked_on bytes_of c.args.moment c.args.grace held c.loop-held.dues c.take_late.new.self
          c.in-Some.ensures.late c.in-Some.ensures.order c.in-Some.ensures.held c.in-Some.ensures.reported c.args.dues.now
          c.loop-held.invariant.dues;
      late = taken_on bytes_of c.args.moment c.args.grace held c.loop-held.dues c.take_late.new.self
          c.in-Some.ensures.late c.in-Some.ensures.order c.in-Some.ensures.held c.in-Some.ensures.reported c.args.dues.now
          c.loop-held.late.items c.push.new.self.items c.in_ok-push.ensures.items c.loop-held.invariant.late;
    }

pub returns-clause-dues : goal.returns-clause-dues
returns-clause-dues g c =
    c.in_default.ensures.unchanged ∙ sym (marked_none c.args.moment c.args.grace c.loop-held.dues c.in_default.ensures.none)
    ∙ c.loop-held.invariant.dues
