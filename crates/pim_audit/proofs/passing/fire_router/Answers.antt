use Rattle.std.proofs.Common.{◌∙◌, arith}
use Rattle.pim_audit.proofs.HappensOn.{happens_first, happens_last}
use Rattle.pim_audit.proofs.OneMachine.{grows_more}
use Rattle.pim_audit.proofs.Touching.{router_fires_more, router_fires_no_more}
use Rattle.pim_audit.proofs.passing.fire_router.Goals as goal

pub loop-firing-preserved : goal.loop-firing-preserved
loop-firing-preserved g c = record {
  on = λ after happens. c.loop-firing.invariant.on after
      (happens_first c.firing_passes.ensures c.happening_goes_on.ensures c.args.moment c.loop-firing.router c.fire_to.new.self after _
      c.in-Some.ensures.fires happens);
  setup = c.fire_to.ensures.setup ∙ c.loop-firing.invariant.setup;
  later = omega (arith, c.fire_to.ensures.later, c.loop-firing.invariant.later);
  within = omega (arith, c.fire_to.ensures.moment, c.loop-firing.invariant.within);
  stays = router_fires_more c.args.moment c.loop-firing.touched c.touch.new.self c.args.router.now.machines c.loop-firing.router c.fire_to.new.self _
      c.loop-firing.invariant.stays c.touch.ensures.grows c.touch.ensures.touches c.in-Some.ensures.fires;
  grows = grows_more c.args.touched.now c.loop-firing.touched c.touch.new.self c.loop-firing.invariant.grows c.touch.ensures.grows;
}

pub returns-clause-happens : goal.returns-clause-happens
returns-clause-happens g c =
    c.loop-firing.invariant.on c.fire_to.new.self (happens_last c.args.moment c.loop-firing.router c.fire_to.new.self c.in_default.ensures.fires)

pub returns-clause-stays : goal.returns-clause-stays
returns-clause-stays g c =
    router_fires_no_more c.args.moment c.loop-firing.touched c.args.router.now.machines c.loop-firing.router c.fire_to.new.self
    c.loop-firing.invariant.stays c.in_default.ensures.fires

pub returns-clause-grows : goal.returns-clause-grows
returns-clause-grows g c = c.loop-firing.invariant.grows
