use Rattle.pim_trace.proofs.Words.{◌∙◌, [], ◌∷◌, refl, sym, subst, arith, firing_seen, timer_fired, Passes, FiresTo}
use Rattle.pim_trace.proofs.Words.{FiresAfter, ledger_seen}
use Rattle.std.specs.Prelude.{option_map}
use Rattle.pim_trace.proofs.Fires.{fires_alone, nobody_after, ends_alone}
use Rattle.pim_trace.proofs.Listed.{tells_err}
use Rattle.pim_trace.proofs.OnTheWay.{begin, further, stopped, arrived}
use Rattle.pim_trace.proofs.passing.fire_all.Goals as goal

pub loop-firing-init : goal.loop-firing-init
loop-firing-init g c = record {
  way = begin (g.T.EventWriter.line c.args.event_writer.now) c.args.moment (ledger_seen g.F.Family.bytes_of c.args.ledger.now) c.args.router.now (g.T.EventWriter.contents c.args.device.now);
  nobody = c.requires.nobody;
  failures = refl;
  later = omega arith;
  within = omega arith;
  setup = refl;
  frames = refl;
  own = refl;
}

pub loop-firing-preserved : goal.loop-firing-preserved
loop-firing-preserved g c =
    let f : FiresAfter c.args.moment c.loop-firing.router (firing_seen g.F.Family.bytes_of c.in-Some.firing) c.fire_to.new.self =
    subst (λ r. FiresTo c.args.moment c.loop-firing.router (option_map (firing_seen g.F.Family.bytes_of) r) c.fire_to.new.self) c.in-Some.is c.fire_to.ensures.fires in
    let passes : Passes c.args.moment c.loop-firing.router ((c.now.result, timer_fired (firing_seen g.F.Family.bytes_of c.in-Some.firing)) ∷ []) c.fire_to.new.self =
    subst (λ m. Passes c.args.moment c.loop-firing.router ((m, timer_fired (firing_seen g.F.Family.bytes_of c.in-Some.firing)) ∷ []) c.fire_to.new.self) (sym c.now.ensures)
    (fires_alone c.firing_passes.ensures c.args.moment c.loop-firing.router c.fire_to.new.self (firing_seen g.F.Family.bytes_of c.in-Some.firing) c.fire_to.ensures.moment c.loop-firing.invariant.nobody f) in
    record {
      way = further (g.T.EventWriter.line c.args.event_writer.now) c.args.moment (ledger_seen g.F.Family.bytes_of c.args.ledger.now) c.args.router.now (g.T.EventWriter.contents c.args.device.now) c.happening_goes_on.ensures
          (ledger_seen g.F.Family.bytes_of c.loop-firing.ledger) c.loop-firing.router (g.T.EventWriter.contents c.loop-firing.device) c.loop-firing.invariant.way c.args.moment (omega arith) _ c.fire_to.new.self passes
          (g.T.EventWriter.contents c.write_firing.new.device) (ledger_seen g.F.Family.bytes_of c.write_firing.new.ledger) c.in_ok-write_firing.ensures.reported.0 c.in_ok-write_firing.ensures.reported.1;
      nobody = nobody_after c.args.moment c.loop-firing.router c.fire_to.new.self (firing_seen g.F.Family.bytes_of c.in-Some.firing) c.loop-firing.invariant.nobody f;
      failures = c.in_ok-write_firing.ensures.count ∙ c.loop-firing.invariant.failures;
      later = omega (arith, c.loop-firing.invariant.later, c.fire_to.ensures.later);
      within = omega (arith, c.loop-firing.invariant.within, c.fire_to.ensures.moment);
      setup = c.fire_to.ensures.setup ∙ c.loop-firing.invariant.setup;
      frames = c.in_ok-write_firing.ensures.frames ∙ c.loop-firing.invariant.frames;
      own = c.in_ok-write_firing.ensures.own ∙ c.loop-firing.invariant.own;
    }

pub returns-in_err-write_firing-clause-reported : goal.returns-in_err-write_firing-clause-reported
returns-in_err-write_firing-clause-reported g c =
    let f : FiresAfter c.args.moment c.loop-firing.router (firing_seen g.F.Family.bytes_of c.in-Some.firing) c.fire_to.new.self =
    subst (λ r. FiresTo c.args.moment c.loop-firing.router (option_map (firing_seen g.F.Family.bytes_of) r) c.fire_to.new.self) c.in-Some.is c.fire_to.ensures.fires in
    let passes : Passes c.args.moment c.loop-firing.router ((c.now.result, timer_fired (firing_seen g.F.Family.bytes_of c.in-Some.firing)) ∷ []) c.fire_to.new.self =
    subst (λ m. Passes c.args.moment c.loop-firing.router ((m, timer_fired (firing_seen g.F.Family.bytes_of c.in-Some.firing)) ∷ []) c.fire_to.new.self) (sym c.now.ensures)
    (fires_alone c.firing_passes.ensures c.args.moment c.loop-firing.router c.fire_to.new.self (firing_seen g.F.Family.bytes_of c.in-Some.firing) c.fire_to.ensures.moment c.loop-firing.invariant.nobody f) in
    tells_err (g.T.EventWriter.line c.args.event_writer.now) _ _ _ (g.T.EventWriter.contents c.args.device.now) (g.T.EventWriter.contents c.write_firing.new.device) c.from_residual.result c.from_residual.ensures.0
    (stopped (g.T.EventWriter.line c.args.event_writer.now) c.args.moment (ledger_seen g.F.Family.bytes_of c.args.ledger.now) c.args.router.now (g.T.EventWriter.contents c.args.device.now) c.happening_goes_on.ensures
    (ledger_seen g.F.Family.bytes_of c.loop-firing.ledger) c.loop-firing.router (g.T.EventWriter.contents c.loop-firing.device) c.loop-firing.invariant.way c.args.moment (omega arith) _ c.fire_to.new.self passes
    (g.T.EventWriter.contents c.write_firing.new.device) c.every_state_goes_on.ensures c.in_err-write_firing.ensures.reported)

pub returns-clause-reported : goal.returns-clause-reported
returns-clause-reported g c =
    arrived (g.T.EventWriter.line c.args.event_writer.now) c.args.moment (ledger_seen g.F.Family.bytes_of c.args.ledger.now) c.args.router.now (g.T.EventWriter.contents c.args.device.now)
    (ledger_seen g.F.Family.bytes_of c.loop-firing.ledger) c.loop-firing.router (g.T.EventWriter.contents c.loop-firing.device) c.loop-firing.invariant.way c.fire_to.new.self
    (ends_alone c.args.moment c.loop-firing.router c.fire_to.new.self c.fire_to.ensures.moment c.loop-firing.invariant.nobody
    (subst (λ r. FiresTo c.args.moment c.loop-firing.router (option_map (firing_seen g.F.Family.bytes_of) r) c.fire_to.new.self) c.in_default.is c.fire_to.ensures.fires))
