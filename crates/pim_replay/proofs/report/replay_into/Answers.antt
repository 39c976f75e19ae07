use Rattle.pim_replay.proofs.Words.{refl, err_from_is_err_and}
use Rattle.pim_replay.proofs.Ending.{cut_short, ends_reported, not_told}
use Rattle.pim_replay.proofs.report.replay_into.Goals as goal

pub returns-in_err-counts-clause-report : goal.returns-in_err-counts-clause-report
returns-in_err-counts-clause-report g c =
    let p = err_from_is_err_and c.from_residual.result c.from_residual.ensures.1 in
    rw (p.1, p.2)
    (cut_short g.F.Family.family c.args.end c.args.merge.now c.args.router.now (g.W.Drain.contents c.args.writer.now) c.args.shows_via c.replay_for.new.merge c.replay_for.new.router
    (g.W.Drain.contents c.replay_for.new.device) c.in_err-counts.field-0.0 c.in_err-counts.ensures.heard c.replay_for.ensures.tallied)

pub returns-in-Ok-clause-report : goal.returns-in-Ok-clause-report
returns-in-Ok-clause-report g c = (
  refl,
  ends_reported g.F.Family.family c.args.end c.args.merge.now c.args.router.now (g.W.Drain.contents c.args.writer.now) c.args.shows_via c.replay_for.new.router (g.W.Drain.contents c.replay_for.new.device)
      (g.W.Drain.contents c.write_state.new.writer) c.in_ok-counts.counts c.in_ok-counts.ensures.heard.0 c.in-Ok.ensures.text,
  c.in_ok-counts.ensures.heard.1,
)

pub returns-in-Err-clause-report : goal.returns-in-Err-clause-report
returns-in-Err-clause-report g c =
    not_told g.F.Family.family c.args.end c.args.merge.now c.args.router.now (g.W.Drain.contents c.args.writer.now) c.args.shows_via c.replay_for.new.router (g.W.Drain.contents c.replay_for.new.device)
    (g.W.Drain.contents c.write_state.new.writer) c.in_ok-counts.counts c.in_ok-counts.ensures.heard.0 c.replay_for.new.merge c.in-Err.fault c.of_text.result c.of_text.ensures c.in-Err.ensures.text
    c.replay_for.ensures.tallied
