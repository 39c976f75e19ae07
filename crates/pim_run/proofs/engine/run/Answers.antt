use Rattle.std.proofs.Common.{refl, ◌∙◌}
use Rattle.std.proofs.lemmas.Result.{err_from_is_err_and}
use Rattle.pim_run.proofs.Underway.{begin, if_true, if_false, ends_so, if_more}
use Rattle.pim_run.proofs.engine.run.Goals as goal

pub loop-init : goal.loop-init
loop-init g c = record {
  underway = begin (g.H.Hooks.takes c.args.hooks.now) (g.H.Hooks.begins c.args.hooks.now) c.args.end c.args.merge.now c.args.kept.now c.args.router.now (g.H.Hooks.contents c.args.device.now);
  failures = refl;
  ports = c.requires.ports;
  moment = c.requires.moment;
  ready = c.requires.ready;
  setup = refl;
}

pub loop-smaller : goal.loop-smaller
loop-smaller g c = if_more c.in_ok-step.field-0 c.if-branch.true c.in_ok-step.ensures.nearer

pub loop-preserved : goal.loop-preserved
loop-preserved g c = record {
  underway = if_true (g.H.Hooks.takes c.args.hooks.now) (g.H.Hooks.begins c.args.hooks.now) c.args.end c.args.merge.now c.args.kept.now c.args.router.now (g.H.Hooks.contents c.args.device.now)
      c.step.new.merge c.step.new.kept c.step.new.router (g.H.Hooks.contents c.step.new.device) c.in_ok-step.field-0 c.if-branch.true
      (c.in_ok-step.ensures.taken c.args.merge.now c.args.kept.now c.args.router.now (g.H.Hooks.contents c.args.device.now) c.loop.invariant.underway);
  failures = c.in_ok-step.ensures.count ∙ c.loop.invariant.failures;
  ports = c.in_ok-step.ensures.ports;
  moment = c.in_ok-step.ensures.moment;
  ready = c.in_ok-step.ensures.ready;
  setup = c.step.ensures.setup ∙ c.loop.invariant.setup;
}

pub returns-in_err-step-clause-runs : goal.returns-in_err-step-clause-runs
returns-in_err-step-clause-runs g c =
    let p = err_from_is_err_and c.from_residual.result c.from_residual.ensures.1 in
    rw (p.1, p.2)
    (ends_so (g.H.Hooks.takes c.args.hooks.now) (g.H.Hooks.begins c.args.hooks.now) c.args.end c.args.merge.now c.args.kept.now c.args.router.now (g.H.Hooks.contents c.args.device.now)
    c.step.new.merge c.step.new.kept c.step.new.router (g.H.Hooks.contents c.step.new.device) c.in_err-step.field-0.0
    (c.in_err-step.ensures.taken c.args.merge.now c.args.kept.now c.args.router.now (g.H.Hooks.contents c.args.device.now) c.loop.invariant.underway))

pub returns-clause-runs : goal.returns-clause-runs
returns-clause-runs g c =
    if_false (g.H.Hooks.takes c.args.hooks.now) (g.H.Hooks.begins c.args.hooks.now) c.args.end c.args.merge.now c.args.kept.now c.args.router.now (g.H.Hooks.contents c.args.device.now)
    c.step.new.merge c.step.new.kept c.step.new.router (g.H.Hooks.contents c.step.new.device) c.in_ok-step.field-0 c.if-branch.false
    (c.in_ok-step.ensures.taken c.args.merge.now c.args.kept.now c.args.router.now (g.H.Hooks.contents c.args.device.now) c.loop.invariant.underway)

pub returns-in_err-step-clause-tallied : goal.returns-in_err-step-clause-tallied
returns-in_err-step-clause-tallied g c = c.step.ensures.tallied c.args.merge.now c.loop.invariant.underway.taken c.loop.invariant.underway.run

pub returns-clause-tallied : goal.returns-clause-tallied
returns-clause-tallied g c = c.step.ensures.tallied c.args.merge.now c.loop.invariant.underway.taken c.loop.invariant.underway.run
