use Rattle.pim_down.proofs.Words.{◌≡◌, ◌<◌, length, map, take, refl, ap, subst, arith, ◌∙◌, length-drop, alarm_of, AreKnown, with_run}
use Rattle.pim_down.proofs.RunPut.{runs_on}
use Rattle.pim_down.proofs.records.alarms.Alarms.put_run.Goals as goal

pub loop-at-init : goal.loop-at-init
unfolding with_run
loop-at-init g c = record {
  alarms = λ ends run timers long known kept. kept;
  within = omega arith;
  few = omega arith;
  capacity = refl;
}

pub loop-at-preserved : goal.loop-at-preserved
loop-at-preserved g c =
    let bytes_of = g.O.KeyOrder.bytes_of in
    let slab = c.args.slab.now in
    let numbers = c.args.numbers.now in
    let i = c.loop-at.at in
    let done = c.put_front-at.result in
    let kept_so = c.loop-at.invariant in
    let within : i < length numbers = c.loop-at-test.true in
    record {
      alarms = λ ends run timers long known kept.
          runs_on bytes_of slab c.args.to ends i done numbers run timers c.loop-at.self.alarms c.put_front-at.new.self.alarms (omega (arith, within)) long known (kept_so.alarms ends run timers long known kept)
          (λ others all few is so. subst (λ ms. (front : length others ≡ length ms) → AreKnown bytes_of slab (with_run bytes_of c.args.to ms others all) → c.put_front-at.new.self.alarms ≡ map alarm_of (with_run bytes_of c.args.to (take done ms) (take done others) all)) c.split_at.ensures.back (λ f k. c.put_front-at.ensures.alarms others all f k so) few is);
      within = omega (arith, within, (ap length c.split_at.ensures.back ∙ length-drop i numbers), c.put_front-at.ensures.numbers);
      few = omega (arith, kept_so.few, c.put_front-at.ensures.more);
      capacity = c.put_front-at.ensures.capacity ∙ kept_so.capacity;
    }
