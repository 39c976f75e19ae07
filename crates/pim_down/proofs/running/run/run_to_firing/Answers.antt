use Rattle.pim_down.proofs.Words.{arith, deadline_seen, firing_seen, records_seen}
use Rattle.pim_down.proofs.FirstTimer.{first_end_some}
use Rattle.pim_down.proofs.Late.{late_first, late_not_by, late_at_end}
use Rattle.pim_down.proofs.Stops.{fires_at, fires_none}
use Rattle.pim_down.proofs.running.run.run_to_firing.Goals as goal

pub returns-in-Some-clause-fires : goal.returns-in-Some-clause-fires
returns-in-Some-clause-fires g c ports limit =
    let bytes_of = g.F.Family.bytes_of in
    let held = c.args.records.now.items in
    let ends = c.in-Some.first.ends_at in
    let first = first_end_some (records_seen bytes_of held) (deadline_seen bytes_of c.in-Some.first) c.in-Some.ensures.first.0 in
    let from = late_first c.args.now ends (records_seen bytes_of held) c.requires.late first in
    fires_at bytes_of ports limit c.args.moment c.args.now held ends c.fire_timer.new.records.items (firing_seen bytes_of c.fire_timer.result.0) from (omega (arith, c.max-last.ensures, c.in-Some.ensures.first.1)) first c.fire_timer.ensures.fires

pub returns-in-Some-clause-later : goal.returns-in-Some-clause-later
returns-in-Some-clause-later g c =
    let held = records_seen g.F.Family.bytes_of c.args.records.now.items in
    late_first c.args.now c.in-Some.first.ends_at held c.requires.late (first_end_some held (deadline_seen g.F.Family.bytes_of c.in-Some.first) c.in-Some.ensures.first.0)

pub returns-in-Some-clause-late : goal.returns-in-Some-clause-late
returns-in-Some-clause-late g c =
    let bytes_of = g.F.Family.bytes_of in
    let held = records_seen bytes_of c.args.records.now.items in
    let ends = c.in-Some.first.ends_at in
    let first = first_end_some held (deadline_seen bytes_of c.in-Some.first) c.in-Some.ensures.first.0 in
    c.fire_timer.ensures.late ends (late_at_end c.args.now ends ends held first (omega (arith, late_first c.args.now ends held c.requires.late first)) c.requires.late)

pub returns-in-None-clause-fires : goal.returns-in-None-clause-fires
returns-in-None-clause-fires g c ports limit =
    fires_none g.F.Family.bytes_of ports limit c.args.moment c.args.now c.args.records.now.items c.max-last.result c.max-last.ensures c.in-None.ensures.first

pub returns-in-None-clause-late : goal.returns-in-None-clause-late
returns-in-None-clause-late g c = late_not_by c.max-last.result (records_seen g.F.Family.bytes_of c.args.records.now.items) c.in-None.ensures.first
