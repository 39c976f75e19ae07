use Rattle.pim_trace.proofs.Words.{◌∙◌, refl, arith, ledger_seen}
use Rattle.pim_trace.proofs.Fires.{nobody_until}
use Rattle.pim_trace.proofs.Listed.{tells_err}
use Rattle.pim_trace.proofs.OnTheWay.{begin, part_told, part_begun, rest_tells}
use Rattle.pim_trace.proofs.passing.pass_time.Goals as goal

pub loop-end-init : goal.loop-end-init
loop-end-init g c = record {
  way = begin (g.T.EventWriter.line c.args.event_writer.now) c.args.moment (ledger_seen g.F.Family.bytes_of c.args.ledger.now) c.args.router.now (g.T.EventWriter.contents c.args.device.now);
  failures = refl;
  later = omega arith;
  within = omega arith;
  setup = refl;
  frames = refl;
  own = refl;
}

pub loop-end-preserved : goal.loop-end-preserved
loop-end-preserved g c =
    let later = c.in_ok-pass_to_time_out.ensures.later in
    let reached = c.in_ok-pass_to_time_out.ensures.reached in
    let before = c.in-Some.ensures.1 in
    record {
      way = part_told (g.T.EventWriter.line c.args.event_writer.now) c.args.moment (ledger_seen g.F.Family.bytes_of c.args.ledger.now) c.args.router.now (g.T.EventWriter.contents c.args.device.now) (ledger_seen g.F.Family.bytes_of c.loop-end.ledger) c.loop-end.router (g.T.EventWriter.contents c.loop-end.device) c.loop-end.invariant.way c.happening_goes_on.ensures c.in-Some.end c.in-Some.ensures.1
          (ledger_seen g.F.Family.bytes_of c.pass_to_time_out.new.ledger) c.pass_to_time_out.new.router (g.T.EventWriter.contents c.pass_to_time_out.new.device) c.in_ok-pass_to_time_out.ensures.reported;
      failures = c.in_ok-pass_to_time_out.ensures.count ∙ c.loop-end.invariant.failures;
      later = omega (arith, c.loop-end.invariant.later, later, reached);
      within = omega (arith, c.loop-end.invariant.within, later, reached, before);
      setup = c.in_ok-pass_to_time_out.ensures.setup ∙ c.loop-end.invariant.setup;
      frames = c.in_ok-pass_to_time_out.ensures.frames ∙ c.loop-end.invariant.frames;
      own = c.in_ok-pass_to_time_out.ensures.own ∙ c.loop-end.invariant.own;
    }

pub returns-in_err-pass_to_time_out-clause-reported : goal.returns-in_err-pass_to_time_out-clause-reported
returns-in_err-pass_to_time_out-clause-reported g c =
    tells_err (g.T.EventWriter.line c.args.event_writer.now) _ _ _ (g.T.EventWriter.contents c.args.device.now) (g.T.EventWriter.contents c.pass_to_time_out.new.device) c.from_residual.result c.from_residual.ensures.0
    (part_begun (g.T.EventWriter.line c.args.event_writer.now) c.args.moment (ledger_seen g.F.Family.bytes_of c.args.ledger.now) c.args.router.now (g.T.EventWriter.contents c.args.device.now) (ledger_seen g.F.Family.bytes_of c.loop-end.ledger) c.loop-end.router (g.T.EventWriter.contents c.loop-end.device) c.loop-end.invariant.way c.happening_goes_on.ensures c.in-Some.end c.in-Some.ensures.1 c.every_state_goes_on.ensures (g.T.EventWriter.contents c.pass_to_time_out.new.device) c.in_err-pass_to_time_out.ensures.reported)

pub fire_all-requires-clause-nobody : goal.fire_all-requires-clause-nobody
fire_all-requires-clause-nobody g c =
    nobody_until c.nobody_goes_before_first_timeout.ensures c.args.moment c.loop-end.router c.is_router.ensures c.in_default.ensures

pub returns-clause-reported : goal.returns-clause-reported
returns-clause-reported g c =
    rest_tells (g.T.EventWriter.line c.args.event_writer.now) c.args.moment (ledger_seen g.F.Family.bytes_of c.args.ledger.now) c.args.router.now (g.T.EventWriter.contents c.args.device.now) (ledger_seen g.F.Family.bytes_of c.loop-end.ledger) c.loop-end.router (g.T.EventWriter.contents c.loop-end.device) c.loop-end.invariant.way c.happening_goes_on.ensures c.args.moment (omega arith) c.every_state_goes_on.ensures
    (ledger_seen g.F.Family.bytes_of c.fire_all.new.ledger) c.fire_all.new.router (g.T.EventWriter.contents c.fire_all.new.device) c.fire_all.result c.fire_all.ensures.reported
