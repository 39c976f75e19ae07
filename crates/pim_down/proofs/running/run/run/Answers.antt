use Rattle.pim_down.proofs.Words.{◌+◌, ◌≡◌, Some, subst, arith, fired, deadline_seen, step_seen, record_seen, records_seen, shown, length-map}
use Rattle.pim_down.proofs.FirstDue.{weight_length}
use Rattle.pim_down.proofs.FirstTimer.{first_end_some}
use Rattle.pim_down.proofs.Late.{late_first, late_not_by, late_at_end}
use Rattle.pim_down.proofs.Kept.{still_ascending}
use Rattle.pim_down.proofs.Jumps.{lighter}
use Rattle.pim_down.proofs.Firings.{RunsFiring, looking, goes_fired, arrive, settle}
use Rattle.pim_down.proofs.running.run.run.Goals as goal

pub first_by-requires : goal.first_by-requires
first_by-requires g c =
    omega (arith, c.loop-first.invariant.few, weight_length (records_seen g.F.Family.bytes_of c.args.records.now.items), length-map c.args.records.now.items (record_seen g.F.Family.bytes_of), c.len-few.ensures.small)

pub returns-in-Echo-clause-runs : goal.returns-in-Echo-clause-runs
returns-in-Echo-clause-runs g c ports limit =
    let bytes_of = g.F.Family.bytes_of in
    let held = c.loop-first.records.items in
    let ends = c.in-Some.first.ends_at in
    let first = first_end_some (records_seen bytes_of held) (deadline_seen bytes_of c.in-Some.first) c.in-Some.ensures.first.0 in
    let from = late_first c.loop-first.now ends (records_seen bytes_of held) c.loop-first.invariant.late first in
    let reported = subst (λ s. fired (shown bytes_of ends held) ≡ Some (step_seen bytes_of s, shown bytes_of ends c.fire_first-step.new.records.items)) c.in-Echo.is c.fire_first-step.ensures.fired in
    let goes = goes_fired bytes_of ends held c.fire_first-step.new.records.items _ reported ports limit c.args.moment in
    let runs = c.loop-first.invariant.from_start ports limit _ _ 1 (arrive bytes_of ports limit c.args.moment c.args.now c.loop-first.now ends c.max-last.result ends held _ _ 1 c.loop-first.invariant.later c.max-last.ensures c.in-Some.ensures.first.1 (omega (arith, from)) first goes) in
    looking _ _ _ _ (c.loop-first.looks + 1) _ runs (omega (arith, c.in-Some.ensures.looks)) (omega (arith, c.in-Some.ensures.looks))

pub returns-in-Echo-clause-later : goal.returns-in-Echo-clause-later
returns-in-Echo-clause-later g c =
    let bytes_of = g.F.Family.bytes_of in
    let held = records_seen bytes_of c.loop-first.records.items in
    let first = first_end_some held (deadline_seen bytes_of c.in-Some.first) c.in-Some.ensures.first.0 in
    omega (arith, late_first c.loop-first.now c.in-Some.first.ends_at held c.loop-first.invariant.late first, c.loop-first.invariant.later)

pub returns-in-Echo-clause-late : goal.returns-in-Echo-clause-late
returns-in-Echo-clause-late g c =
    let bytes_of = g.F.Family.bytes_of in
    let held = records_seen bytes_of c.loop-first.records.items in
    let ends = c.in-Some.first.ends_at in
    let first = first_end_some held (deadline_seen bytes_of c.in-Some.first) c.in-Some.ensures.first.0 in
    let from = late_first c.loop-first.now ends held c.loop-first.invariant.late first in
    c.fire_first-step.ensures.late ends (late_at_end c.loop-first.now ends ends held first (omega (arith, from)) c.loop-first.invariant.late)

pub loop-first-smaller : goal.loop-first-smaller
loop-first-smaller g c = lighter g.F.Family.bytes_of c.in-Some.first.ends_at c.loop-first.records.items c.fire_first-step.new.records.items _ c.fire_first-step.ensures.fired

pub loop-first-preserved : goal.loop-first-preserved
loop-first-preserved g c =
    let bytes_of = g.F.Family.bytes_of in
    let held = c.loop-first.records.items in
    let ends = c.in-Some.first.ends_at in
    let first = first_end_some (records_seen bytes_of held) (deadline_seen bytes_of c.in-Some.first) c.in-Some.ensures.first.0 in
    let from = late_first c.loop-first.now ends (records_seen bytes_of held) c.loop-first.invariant.late first in
    let reported = subst (λ s. fired (shown bytes_of ends held) ≡ Some (step_seen bytes_of s, shown bytes_of ends c.fire_first-step.new.records.items)) c.in-Reached.is c.fire_first-step.ensures.fired in
    let goes = goes_fired bytes_of ends held c.fire_first-step.new.records.items _ reported in
    record {
      from_start = λ ports limit answer after timers runs.
          let more = c.loop-first.invariant.from_start ports limit answer after (1 + timers) (arrive bytes_of ports limit c.args.moment c.args.now c.loop-first.now ends c.max-last.result ends held answer after (1 + timers) c.loop-first.invariant.later c.max-last.ensures c.in-Some.ensures.first.1 (omega (arith, from)) first (goes ports limit c.args.moment answer after timers runs)) in
          subst (RunsFiring c.args.moment _ answer after) (omega (arith, c.in-Some.ensures.looks)) more;
      few = omega (arith, c.in-Some.ensures.looks, c.loop-first.invariant.few, lighter bytes_of ends held c.fire_first-step.new.records.items _ c.fire_first-step.ensures.fired);
      later = omega (arith, from, c.loop-first.invariant.later);
      within = c.in-Some.ensures.first.1;
      ascending = still_ascending bytes_of ends held c.fire_first-step.new.records.items _ c.fire_first-step.ensures.fired c.loop-first.invariant.ascending;
      late = c.fire_first-step.ensures.late ends (late_at_end c.loop-first.now ends ends (records_seen bytes_of held) first (omega (arith, from)) c.loop-first.invariant.late);
    }

pub returns-in-None-clause-runs : goal.returns-in-None-clause-runs
returns-in-None-clause-runs g c ports limit =
    let runs = c.loop-first.invariant.from_start ports limit _ _ 0 (settle g.F.Family.bytes_of ports limit c.args.moment c.args.now c.loop-first.now c.max-last.result c.loop-first.records.items c.loop-first.invariant.later c.loop-first.invariant.within c.max-last.ensures c.in-None.ensures.first) in
    looking _ _ _ _ (c.loop-first.looks + 0) _ runs (omega (arith, c.in-None.ensures.looks)) (omega (arith, c.in-None.ensures.looks))

pub returns-in-None-clause-late : goal.returns-in-None-clause-late
returns-in-None-clause-late g c = late_not_by c.max-last.result (records_seen g.F.Family.bytes_of c.loop-first.records.items) c.in-None.ensures.first
