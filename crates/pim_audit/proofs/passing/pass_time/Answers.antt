use Rattle.pim_audit.proofs.Words.{◌∙◌, ◌<◌, sym, subst, arith, Passed}
use Rattle.pim_audit.specs.Steps.{ReachesBy}
use Rattle.pim_audit.proofs.PassSteps.{Leads, time_left, first_leads, next_leads, step_smaller, reaches_more}
use Rattle.pim_audit.proofs.passing.pass_time.Goals as goal

pub loop-passed-init : goal.loop-passed-init
loop-passed-init g c = record {
  leads = first_leads g.F.Family.family g.F.Family.bytes_of c.args.moment c.args.ended.now.items c.args.tracked.now.audit c.args.router.now
      c.in_ok-passed.passed c.pass.new.tracked.audit c.pass.new.router c.in_ok-passed.ensures.passed;
  quiet = c.in_ok-passed.ensures.quiet;
  step = c.in_ok-passed.ensures.step;
  by = c.in_ok-passed.ensures.reached;
  later = c.in_ok-passed.ensures.later;
  present = c.in_ok-passed.ensures.present;
  setup = c.in_ok-passed.ensures.setup;
  holds = c.in_ok-passed.ensures.holds;
}

pub loop-passed-smaller : goal.loop-passed-smaller
loop-passed-smaller g c =
    subst (λ (p : Passed g.row.F-Addr.Denot). time_left c.args.moment c.in_ok-passed-2.passed c.pass-in-Ended.new.router < time_left c.args.moment p c.loop-passed.router)
    (sym c.in-Ended.is)
    (step_smaller g.F.Family.family g.F.Family.bytes_of c.args.moment c.the_ended_go_at_first_timeout.ensures c.in-Ended.this c.in_ok-passed-2.passed
    c.loop-passed.tracked.audit c.loop-passed.router c.pass-in-Ended.new.tracked.audit c.pass-in-Ended.new.router c.is_router.ensures
    c.loop-passed.invariant.step c.loop-passed.invariant.quiet c.in_ok-passed-2.ensures.later c.in_ok-passed-2.ensures.passed)

pub loop-passed-preserved : goal.loop-passed-preserved
loop-passed-preserved g c =
    let leads = subst (λ (p : Passed g.row.F-Addr.Denot). Leads g.F.Family.family g.F.Family.bytes_of c.args.moment c.args.ended.now.items c.args.tracked.now.audit
    c.args.router.now c.loop-passed.ended.items p c.loop-passed.tracked.audit c.loop-passed.router) c.in-Ended.is c.loop-passed.invariant.leads in
    let by_end = subst (λ (p : Passed g.row.F-Addr.Denot). ReachesBy c.args.moment c.args.router.now c.loop-passed.router p) c.in-Ended.is c.loop-passed.invariant.by in
    record {
      leads = next_leads g.F.Family.family g.F.Family.bytes_of c.args.moment c.args.ended.now.items c.args.tracked.now.audit c.args.router.now
          c.loop-passed.ended.items c.push.new.self.items c.in-Ended.this c.in_ok-passed-2.passed c.loop-passed.tracked.audit c.loop-passed.router
          c.pass-in-Ended.new.tracked.audit c.pass-in-Ended.new.router leads c.in_ok-push.ensures.items c.in_ok-passed-2.ensures.passed;
      quiet = c.in_ok-passed-2.ensures.quiet;
      step = c.in_ok-passed-2.ensures.step;
      by = reaches_more g.F.Family.family g.F.Family.bytes_of c.args.moment c.in_ok-passed-2.passed c.args.router.now c.loop-passed.router c.pass-in-Ended.new.router
          c.loop-passed.invariant.later by_end c.in_ok-passed-2.ensures.reached;
      later = omega (arith, c.loop-passed.invariant.later, c.in_ok-passed-2.ensures.later);
      present = c.in_ok-passed-2.ensures.present;
      setup = c.in_ok-passed-2.ensures.setup ∙ c.loop-passed.invariant.setup;
      holds = c.in_ok-passed-2.ensures.holds;
    }
