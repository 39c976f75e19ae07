use Rattle.std.proofs.Common.{◌∙◌, arith}
use Rattle.pim_audit.proofs.FiresOn.{lighter, fires_first, none_fires}
use Rattle.pim_audit.proofs.OneMachine.{grows_more}
use Rattle.pim_audit.proofs.Touching.{fires_more, fires_no_more}
use Rattle.pim_audit.proofs.asked.pass_to.Goals as goal

pub loop-firing-smaller : goal.loop-firing-smaller
loop-firing-smaller g c =
    lighter c.timers_run_out.ensures c.firing_says_more.ensures c.args.moment c.loop-firing.asked c.fire_to.new.self _ c.in-Some.ensures.fires

pub loop-firing-preserved : goal.loop-firing-preserved
loop-firing-preserved g c = record {
  on = λ after passes. c.loop-firing.invariant.on after
      (fires_first c.args.moment c.loop-firing.asked c.fire_to.new.self after _ c.in-Some.ensures.fires passes);
  ports = c.fire_to.ensures.ports ∙ c.loop-firing.invariant.ports;
  limit = c.fire_to.ensures.limit ∙ c.loop-firing.invariant.limit;
  later = omega (arith, c.fire_to.ensures.later, c.loop-firing.invariant.later);
  within = omega (arith, c.fire_to.ensures.moment, c.loop-firing.invariant.within);
  stays = fires_more c.args.moment c.loop-firing.touched c.touch.new.self c.args.asked.now c.loop-firing.asked c.fire_to.new.self _
      c.loop-firing.invariant.stays c.touch.ensures.grows c.touch.ensures.touches c.in-Some.ensures.fires;
  grows = grows_more c.args.touched.now c.loop-firing.touched c.touch.new.self c.loop-firing.invariant.grows c.touch.ensures.grows;
}

pub returns-clause-passes : goal.returns-clause-passes
returns-clause-passes g c =
    c.loop-firing.invariant.on c.fire_to.new.self (none_fires c.args.moment c.loop-firing.asked c.fire_to.new.self c.in_default.ensures.fires)

pub returns-clause-stays : goal.returns-clause-stays
returns-clause-stays g c =
    fires_no_more c.args.moment c.loop-firing.touched c.args.asked.now c.loop-firing.asked c.fire_to.new.self c.loop-firing.invariant.stays
    c.in_default.ensures.fires

pub returns-clause-grows : goal.returns-clause-grows
returns-clause-grows g c = c.loop-firing.invariant.grows
