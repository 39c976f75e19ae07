use Rattle.pim_trace.proofs.Words.{◌≡◌, ◌-◌, ◌<◌, subst, arith, rests, turn, ledger_seen}
use Rattle.pim_trace.proofs.Fires.{nobody_before}
use Rattle.pim_trace.proofs.Listed.{tells_err}
use Rattle.pim_trace.proofs.OnTheWay.{begin, part_told, part_begun, rest_tells}
use Rattle.pim_trace.proofs.passing.pass_to_time_out.Goals as goal

pub fire_all-requires-clause-nobody : goal.fire_all-requires-clause-nobody
fire_all-requires-clause-nobody g c =
    nobody_before c.nobody_goes_before_first_timeout.ensures c.args.end c.args.router.now c.is_router.ensures c.requires.first (c.the_ended_go_at_first_timeout.ensures c.args.router.now c.args.end c.is_router.ensures c.requires.first).0

pub returns-in_err-fire_all-clause-reported : goal.returns-in_err-fire_all-clause-reported
returns-in_err-fire_all-clause-reported g c =
    tells_err (g.T.EventWriter.line c.args.event_writer.now) _ _ _ (g.T.EventWriter.contents c.args.device.now) (g.T.EventWriter.contents c.fire_all.new.device) c.from_residual.result c.from_residual.ensures.0
    (part_begun (g.T.EventWriter.line c.args.event_writer.now) c.args.end (ledger_seen g.F.Family.bytes_of c.args.ledger.now) c.args.router.now (g.T.EventWriter.contents c.args.device.now) (ledger_seen g.F.Family.bytes_of c.args.ledger.now) c.args.router.now (g.T.EventWriter.contents c.args.device.now) (begin (g.T.EventWriter.line c.args.event_writer.now) c.args.end (ledger_seen g.F.Family.bytes_of c.args.ledger.now) c.args.router.now (g.T.EventWriter.contents c.args.device.now)) c.happening_goes_on.ensures (c.args.end - 1) (omega arith) c.every_state_goes_on.ensures (g.T.EventWriter.contents c.fire_all.new.device) c.in_err-fire_all.ensures.reported)

pub returns-in_err-fire_all-clause-later : goal.returns-in_err-fire_all-clause-later
returns-in_err-fire_all-clause-later g c = (c.the_ended_go_at_first_timeout.ensures c.args.router.now c.args.end c.is_router.ensures c.requires.first).0

pub pass_one-requires-clause-next : goal.pass_one-requires-clause-next
pass_one-requires-clause-next g c =
    let later : c.args.router.now.machines.moment < c.args.end = (c.the_ended_go_at_first_timeout.ensures c.args.router.now c.args.end c.is_router.ensures c.requires.first).0 in
    let reached = c.in_ok-fire_all.ensures.reached in
    omega (arith, later, reached)

pub pass_one-requires-clause-rests : goal.pass_one-requires-clause-rests
pass_one-requires-clause-rests g c =
    let later : c.args.router.now.machines.moment < c.args.end = (c.the_ended_go_at_first_timeout.ensures c.args.router.now c.args.end c.is_router.ensures c.requires.first).0 in
    let reached = c.in_ok-fire_all.ensures.reached in
    let same : c.args.end - 1 ≡ c.fire_all.new.router.machines.moment = omega (arith, later, reached) in
    subst (λ m. turn m c.fire_all.new.router ≡ rests) same c.in_ok-fire_all.ensures.reported.are.happens.ends

pub returns-clause-reported : goal.returns-clause-reported
returns-clause-reported g c =
    rest_tells (g.T.EventWriter.line c.args.event_writer.now) c.args.end (ledger_seen g.F.Family.bytes_of c.args.ledger.now) c.args.router.now (g.T.EventWriter.contents c.args.device.now) (ledger_seen g.F.Family.bytes_of c.fire_all.new.ledger) c.fire_all.new.router (g.T.EventWriter.contents c.fire_all.new.device)
    (part_told (g.T.EventWriter.line c.args.event_writer.now) c.args.end (ledger_seen g.F.Family.bytes_of c.args.ledger.now) c.args.router.now (g.T.EventWriter.contents c.args.device.now) (ledger_seen g.F.Family.bytes_of c.args.ledger.now) c.args.router.now (g.T.EventWriter.contents c.args.device.now) (begin (g.T.EventWriter.line c.args.event_writer.now) c.args.end (ledger_seen g.F.Family.bytes_of c.args.ledger.now) c.args.router.now (g.T.EventWriter.contents c.args.device.now)) c.happening_goes_on.ensures (c.args.end - 1) (omega arith)
    (ledger_seen g.F.Family.bytes_of c.fire_all.new.ledger) c.fire_all.new.router (g.T.EventWriter.contents c.fire_all.new.device) c.in_ok-fire_all.ensures.reported)
    c.happening_goes_on.ensures c.args.end (omega arith) c.every_state_goes_on.ensures (ledger_seen g.F.Family.bytes_of c.pass_one.new.ledger) c.pass_one.new.router (g.T.EventWriter.contents c.pass_one.new.device) c.pass_one.result c.pass_one.ensures.reported

pub returns-clause-later : goal.returns-clause-later
returns-clause-later g c = (c.the_ended_go_at_first_timeout.ensures c.args.router.now c.args.end c.is_router.ensures c.requires.first).0
