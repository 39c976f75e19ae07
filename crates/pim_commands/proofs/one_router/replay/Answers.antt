use Rattle.pim_commands.proofs.Words.{subst, None, IsReported, engine_of, upstream_of, OneRuns}
use Rattle.pim_commands.specs.declared.one_router.OneRouter.{OneRouter}
use Rattle.pim_commands.proofs.one_router.replay.Goals as goal

pub returns-clause-report : goal.returns-clause-report
returns-clause-report g c =
    subst (λ (requested : OneRouter g.row.F-Addr.Denot). OneRuns g.F.Family.family g.F.Family.bytes_of g.O.Reader.Feed.remaining g.O.Reader.Feed.failures (g.O.Opener.known c.args.opener.now) (g.O.Opener.known c.run_one.new.opener)
    c.args.captures.now (upstream_of requested) None (engine_of g.F.Family.family g.F.Family.bytes_of c.args.captures.now requested)
    (λ text. IsReported text (g.E.Drain.contents c.args.errors.now) (g.E.Drain.contents c.run_one.new.errors) (g.E.Drain.failures c.args.errors.now) (g.E.Drain.failures c.run_one.new.errors))
    (g.W.Drain.contents c.args.writer.now) (g.W.Drain.contents c.run_one.new.writer) c.run_one.result) c.report-command.ensures c.run_one.ensures.runs
