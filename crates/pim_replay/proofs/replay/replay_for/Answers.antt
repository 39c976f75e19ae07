use Rattle.pim_replay.proofs.Words.{◌∙◌, ap, err_from_is_err_and, end_moment}
use Rattle.pim_replay.proofs.AllTurns.{run_stopped, all_stopped, all_passed}
use Rattle.pim_replay.proofs.replay.replay_for.Goals as goal

pub returns-in_err-run-clause-heard : goal.returns-in_err-run-clause-heard
returns-in_err-run-clause-heard g c =
    let p = err_from_is_err_and c.from_residual.result c.from_residual.ensures.1 in
    rw (p.1, p.2)
    (run_stopped (g.L.Listener.line c.args.listener.now) g.F.Family.family c.args.end c.args.merge.now c.args.router.now (g.L.Listener.contents c.args.device.now)
    c.run.new.merge c.run.new.kept c.run.new.router (g.L.Listener.contents c.run.new.device) c.in_err-run.field-0.0 c.in_err-run.ensures.runs)

pub returns-in_default-clause-heard : goal.returns-in_default-clause-heard
returns-in_default-clause-heard g c =
    all_stopped (g.L.Listener.line c.args.listener.now) g.F.Family.family c.args.end c.args.merge.now c.args.router.now (g.L.Listener.contents c.args.device.now)
    c.run.new.merge c.run.new.kept c.run.new.router (g.L.Listener.contents c.run.new.device) (g.L.Listener.contents c.pass_time.new.device) c.in_ok-run.ensures.runs
    c.end_moment-moment.result (c.end_moment-moment.ensures.moment ∙ ap (end_moment c.args.end c.run.new.merge.clock) c.now.ensures) c.in_default.ensures.reported

pub returns-clause-heard : goal.returns-clause-heard
returns-clause-heard g c =
    all_passed (g.L.Listener.line c.args.listener.now) g.F.Family.family c.args.end c.args.merge.now c.args.router.now (g.L.Listener.contents c.args.device.now)
    c.run.new.merge c.run.new.kept c.run.new.router (g.L.Listener.contents c.run.new.device) (g.L.Listener.contents c.pass_time.new.device) c.in_ok-run.ensures.runs
    c.end_moment-moment.result (c.end_moment-moment.ensures.moment ∙ ap (end_moment c.args.end c.run.new.merge.clock) c.now.ensures) c.pass_time.new.router c.in-Ok.counts c.in-Ok.ensures.reported
