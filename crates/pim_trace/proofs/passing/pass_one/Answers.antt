use Rattle.pim_trace.proofs.Words.{subst, arith, firing_seen, FiresTo, FiresAfter, ledger_seen}
use Rattle.std.specs.Prelude.{option_map}
use Rattle.pim_trace.proofs.Fires.{nobody_at, there_next}
use Rattle.pim_trace.proofs.Listed.{tells_err}
use Rattle.pim_trace.proofs.Millisecond.{gone_begun, gone_only, fired_begun, fired_way}
use Rattle.pim_trace.proofs.OnTheWay.{rest_tells}
use Rattle.pim_trace.proofs.passing.pass_one.Goals as goal

pub returns-in_err-write_time_outs-clause-reported : goal.returns-in_err-write_time_outs-clause-reported
returns-in_err-write_time_outs-clause-reported g c =
    tells_err (g.T.EventWriter.line c.args.event_writer.now) _ _ _ (g.T.EventWriter.contents c.args.device.now) (g.T.EventWriter.contents c.write_time_outs.new.device) c.from_residual.result c.from_residual.ensures.0
    (gone_begun (g.T.EventWriter.line c.args.event_writer.now) c.happening_goes_on.ensures c.every_state_goes_on.ensures c.args.end c.args.router.now c.requires.next c.requires.rests (ledger_seen g.F.Family.bytes_of c.args.ledger.now) (g.T.EventWriter.contents c.args.device.now) c.firing_says_more.ensures (g.T.EventWriter.contents c.write_time_outs.new.device) c.in_err-write_time_outs.ensures.reported)

pub returns-in_default-clause-reported : goal.returns-in_default-clause-reported
returns-in_default-clause-reported g c =
    let there = c.fire_to.ensures.reached c.in_default.is in
    let next = c.requires.next in
    gone_only (g.T.EventWriter.line c.args.event_writer.now) c.happening_goes_on.ensures c.every_state_goes_on.ensures c.args.end c.args.router.now c.requires.next c.requires.rests (ledger_seen g.F.Family.bytes_of c.args.ledger.now) (g.T.EventWriter.contents c.args.device.now) (ledger_seen g.F.Family.bytes_of c.write_time_outs.new.ledger) c.fire_to.new.self (g.T.EventWriter.contents c.write_time_outs.new.device) (omega (arith, there, next))
    (subst (λ r. FiresTo c.args.end c.args.router.now (option_map (firing_seen g.F.Family.bytes_of) r) c.fire_to.new.self) c.in_default.is c.fire_to.ensures.fires)
    c.in_ok-write_time_outs.ensures.reported

pub returns-in_err-write_firing-clause-reported : goal.returns-in_err-write_firing-clause-reported
returns-in_err-write_firing-clause-reported g c =
    let f : FiresAfter c.args.end c.args.router.now (firing_seen g.F.Family.bytes_of c.in-Some.firing) c.fire_to.new.self =
    subst (λ r. FiresTo c.args.end c.args.router.now (option_map (firing_seen g.F.Family.bytes_of) r) c.fire_to.new.self) c.in-Some.is c.fire_to.ensures.fires in
    tells_err (g.T.EventWriter.line c.args.event_writer.now) _ _ _ (g.T.EventWriter.contents c.args.device.now) (g.T.EventWriter.contents c.write_firing.new.device) c.from_residual-in_err-write_firing.result c.from_residual-in_err-write_firing.ensures.0
    (fired_begun (g.T.EventWriter.line c.args.event_writer.now) c.happening_goes_on.ensures c.every_state_goes_on.ensures c.args.end c.args.router.now c.requires.next c.requires.rests (ledger_seen g.F.Family.bytes_of c.args.ledger.now) (g.T.EventWriter.contents c.args.device.now) c.firing_passes.ensures c.fire_to.new.self (firing_seen g.F.Family.bytes_of c.in-Some.firing) c.fire_to.ensures.moment f (ledger_seen g.F.Family.bytes_of c.write_time_outs.new.ledger) (g.T.EventWriter.contents c.write_time_outs.new.device) c.in_ok-write_time_outs.ensures.reported (g.T.EventWriter.contents c.write_firing.new.device) c.in_err-write_firing.ensures.reported)

pub fire_all-requires-clause-nobody : goal.fire_all-requires-clause-nobody
fire_all-requires-clause-nobody g c =
    let f : FiresAfter c.args.end c.args.router.now (firing_seen g.F.Family.bytes_of c.in-Some.firing) c.fire_to.new.self =
    subst (λ r. FiresTo c.args.end c.args.router.now (option_map (firing_seen g.F.Family.bytes_of) r) c.fire_to.new.self) c.in-Some.is c.fire_to.ensures.fires in
    let there = there_next c.args.end c.args.router.now c.requires.next c.requires.rests c.fire_to.new.self (firing_seen g.F.Family.bytes_of c.in-Some.firing) c.fire_to.ensures.moment f in
    nobody_at c.args.end c.fire_to.new.self c.is_router.ensures (omega (arith, there))

pub returns-clause-reported : goal.returns-clause-reported
returns-clause-reported g c =
    let f : FiresAfter c.args.end c.args.router.now (firing_seen g.F.Family.bytes_of c.in-Some.firing) c.fire_to.new.self =
    subst (λ r. FiresTo c.args.end c.args.router.now (option_map (firing_seen g.F.Family.bytes_of) r) c.fire_to.new.self) c.in-Some.is c.fire_to.ensures.fires in
    rest_tells (g.T.EventWriter.line c.args.event_writer.now) c.args.end (ledger_seen g.F.Family.bytes_of c.args.ledger.now) c.args.router.now (g.T.EventWriter.contents c.args.device.now) (ledger_seen g.F.Family.bytes_of c.write_firing.new.ledger) c.fire_to.new.self (g.T.EventWriter.contents c.write_firing.new.device)
    (fired_way (g.T.EventWriter.line c.args.event_writer.now) c.happening_goes_on.ensures c.every_state_goes_on.ensures c.args.end c.args.router.now c.requires.next c.requires.rests (ledger_seen g.F.Family.bytes_of c.args.ledger.now) (g.T.EventWriter.contents c.args.device.now) c.firing_passes.ensures c.fire_to.new.self (firing_seen g.F.Family.bytes_of c.in-Some.firing) c.fire_to.ensures.moment f (ledger_seen g.F.Family.bytes_of c.write_time_outs.new.ledger) (g.T.EventWriter.contents c.write_time_outs.new.device) c.in_ok-write_time_outs.ensures.reported (ledger_seen g.F.Family.bytes_of c.write_firing.new.ledger) (g.T.EventWriter.contents c.write_firing.new.device) c.in_ok-write_firing.ensures.reported)
    c.happening_goes_on.ensures c.args.end (omega arith) c.every_state_goes_on.ensures (ledger_seen g.F.Family.bytes_of c.fire_all.new.ledger) c.fire_all.new.router (g.T.EventWriter.contents c.fire_all.new.device) c.fire_all.result c.fire_all.ensures.reported
