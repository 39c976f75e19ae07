use Rattle.pim_commands.proofs.Words.{subst, inl, refl, MergeState, IsReported, engine_of, RunsOne}
use Rattle.pim_commands.proofs.Opened.{nothing_told, over_open, not_failed, answered}
use Rattle.pim_commands.proofs.one_router.run_one.Goals as goal

pub returns-in-Err-clause-runs : goal.returns-in-Err-clause-runs
returns-in-Err-clause-runs g c = rw (← c.upstream_of.ensures)
    (inl (c.in-Err.ensures.unopened, refl {a = g.W.Drain.contents c.args.writer.now}, nothing_told (g.E.Drain.contents c.args.errors.now) (g.E.Drain.failures c.args.errors.now)))

pub returns-in-Err-clause-count : goal.returns-in-Err-clause-count
returns-in-Err-clause-count g c =
    not_failed _ (g.O.Opener.known c.args.opener.now) (g.O.Opener.known c.open_one.new.opener) _ (g.W.Drain.failures c.args.writer.now) c.in-Err.fault c.in-Err.ensures.unopened

pub returns-clause-runs : goal.returns-clause-runs
returns-clause-runs g c = rw (← c.upstream_of.ensures)
    (answered _
    (λ text. IsReported text (g.E.Drain.contents c.args.errors.now) (g.E.Drain.contents c.warn_of_one.new.errors) (g.E.Drain.failures c.args.errors.now) (g.E.Drain.failures c.warn_of_one.new.errors))
    (g.W.Drain.contents c.args.writer.now) (g.W.Drain.contents c.run_command-answer.new.writer) c.run_command-answer.result _
    (over_open g.F.Family.family g.F.Family.bytes_of g.O.Reader.Feed.remaining g.O.Reader.Feed.failures (g.O.Opener.known c.args.opener.now) (g.O.Opener.known c.open_one.new.opener)
    c.args.files.0.now c.upstream_of.result c.args.files.1 _ c.in-Ok.opened.routes c.in-Ok.opened.local c.in-Ok.opened.merge c.run_command-answer.new.merge c.in-Ok.ensures.opened (
      subst (λ (m : MergeState). RunsOne g.F.Family.family g.F.Family.bytes_of c.args.files.0.now (engine_of g.F.Family.family g.F.Family.bytes_of c.args.files.0.now c.args.command c.in-Ok.opened.local) c.in-Ok.opened.routes m c.run_command-answer.new.merge
          (g.W.Drain.contents c.args.writer.now) (g.W.Drain.contents c.run_command-answer.new.writer) c.run_command-answer.result) c.begin_census.ensures.census c.run_command-answer.ensures.runs,
      rw (← c.is_ok-is_whole.ensures.value) c.warn_of_one.ensures,
    )))
