use Rattle.pim_replay.proofs.Words.{rules, ◌∙◌, refl, subst, arith, Appends, AppendsFront, RunsPast, fires_behind, PassesTime}
use Rattle.pim_down.specs.Seen.{what_seen, step_seen}
use Rattle.pim_replay.specs.declared.event.ReplayEvent.TheVariants as event
use Rattle.pim_replay.proofs.Told.{tells_err}
use Rattle.pim_replay.proofs.OnTheWay.{begin, echoed, reached, stopped}
use Rattle.pim_replay.proofs.passing.pass_time.Goals as goal

pub loop-port-init : goal.loop-port-init
loop-port-init g c = record {
  way = begin c.args.moment (g.L.Listener.line c.args.listener.now) c.args.router.now (g.L.Listener.contents c.args.device.now) c.args.counts (search rules) (search rules);
  failures = refl;
  later = omega arith;
  within = omega arith;
  setup = refl;
}

pub loop-port-preserved : goal.loop-port-preserved
loop-port-preserved g c = record {
  way = echoed c.args.moment (g.L.Listener.line c.args.listener.now) c.args.router.now (g.L.Listener.contents c.args.device.now) c.args.counts (search rules)
      c.loop-port.router c.run_past_refreshes-step.new.self (g.L.Listener.contents c.loop-port.device) (g.L.Listener.contents c.hear.new.device)
      c.loop-port.refreshes c.run_past_refreshes-step.result.1 c.saturating_add-refreshes.result c.loop-port.invariant.way c.saturating_add-refreshes.ensures
      c.in-Echo.port (g.F.Family.bytes_of c.in-Echo.group) (what_seen g.F.Family.bytes_of c.in-Echo.what)
      (subst (λ step. RunsPast c.run_past_refreshes-step.result.1 c.args.moment c.loop-port.router (fires_behind (step_seen g.F.Family.bytes_of step)) c.run_past_refreshes-step.new.self) c.in-Echo.is c.run_past_refreshes-step.ensures.run)
      (subst (λ moment. Appends (g.L.Listener.contents c.loop-port.device) (g.L.Listener.contents c.hear.new.device)
      (g.L.Listener.line c.args.listener.now (event.Echo moment c.in-Echo.port (g.F.Family.bytes_of c.in-Echo.group) (what_seen g.F.Family.bytes_of c.in-Echo.what)))) c.now.ensures c.in_ok-hear-in-Echo.ensures.bytes);
  failures = c.in_ok-hear-in-Echo.ensures.count ∙ c.loop-port.invariant.failures;
  later = omega (arith, c.loop-port.invariant.later, c.run_past_refreshes-step.ensures.later);
  within = omega (arith, c.loop-port.invariant.within, c.run_past_refreshes-step.ensures.moment);
  setup = c.run_past_refreshes-step.ensures.setup ∙ c.loop-port.invariant.setup;
}

pub returns-in_err-hear-in-Echo-clause-reported : goal.returns-in_err-hear-in-Echo-clause-reported
returns-in_err-hear-in-Echo-clause-reported g c =
    tells_err (g.L.Listener.line c.args.listener.now) (PassesTime c.args.moment c.args.router.now) c.run_past_refreshes-step.new.self (g.L.Listener.contents c.args.device.now) (g.L.Listener.contents c.hear.new.device)
    c.args.counts c.from_residual.result c.from_residual.ensures.0
    (stopped c.args.moment (g.L.Listener.line c.args.listener.now) c.args.router.now (g.L.Listener.contents c.args.device.now) c.args.counts (search rules)
    c.loop-port.router c.run_past_refreshes-step.new.self (g.L.Listener.contents c.loop-port.device) (g.L.Listener.contents c.hear.new.device)
    c.loop-port.refreshes c.run_past_refreshes-step.result.1 c.saturating_add-refreshes.result c.loop-port.invariant.way c.saturating_add-refreshes.ensures
    c.in-Echo.port (g.F.Family.bytes_of c.in-Echo.group) (what_seen g.F.Family.bytes_of c.in-Echo.what)
    (subst (λ step. RunsPast c.run_past_refreshes-step.result.1 c.args.moment c.loop-port.router (fires_behind (step_seen g.F.Family.bytes_of step)) c.run_past_refreshes-step.new.self) c.in-Echo.is c.run_past_refreshes-step.ensures.run)
    c.every_list_has_a_course.ensures g.F.Family.family
    (subst (λ moment. AppendsFront (g.L.Listener.contents c.loop-port.device) (g.L.Listener.contents c.hear.new.device)
    (g.L.Listener.line c.args.listener.now (event.Echo moment c.in-Echo.port (g.F.Family.bytes_of c.in-Echo.group) (what_seen g.F.Family.bytes_of c.in-Echo.what)))) c.now.ensures c.in_err-hear-in-Echo.ensures.bytes))

pub returns-in-Reached-clause-reported : goal.returns-in-Reached-clause-reported
returns-in-Reached-clause-reported g c =
    reached c.args.moment (g.L.Listener.line c.args.listener.now) c.args.router.now (g.L.Listener.contents c.args.device.now) c.args.counts (search rules)
    c.loop-port.router c.run_past_refreshes-step.new.self (g.L.Listener.contents c.loop-port.device) (g.L.Listener.contents c.loop-port.device)
    c.loop-port.refreshes c.run_past_refreshes-step.result.1 c.saturating_add-refreshes.result c.loop-port.invariant.way c.saturating_add-refreshes.ensures
    (subst (λ step. RunsPast c.run_past_refreshes-step.result.1 c.args.moment c.loop-port.router (fires_behind (step_seen g.F.Family.bytes_of step)) c.run_past_refreshes-step.new.self) c.in-Reached.is c.run_past_refreshes-step.ensures.run)
