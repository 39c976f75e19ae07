use Rattle.pim_commands.proofs.Words.{subst, inl, refl, Some, MergeState, IsReported, begun, of_router, port_files, RunsBoth, writing_of}
use Rattle.pim_words.specs.declared.fault.RouterSide.TheVariants as side
use Rattle.pim_commands.proofs.Opened.{nothing_told, over_both, not_failed, answered}
use Rattle.pim_commands.proofs.two_routers.run_two.Goals as goal

pub returns-in-Err-clause-runs : goal.returns-in-Err-clause-runs
returns-in-Err-clause-runs g c = inl (c.in-Err.ensures.unopened, refl {a = g.W.Drain.contents c.args.writer.now}, nothing_told (g.E.Drain.contents c.args.errors.now) (g.E.Drain.failures c.args.errors.now))

pub returns-in-Err-clause-count : goal.returns-in-Err-clause-count
returns-in-Err-clause-count g c =
    not_failed _ (g.O.Opener.known c.args.opener.now) (g.O.Opener.known c.open_two.new.opener) _ (g.W.Drain.failures c.args.writer.now) c.in-Err.fault c.in-Err.ensures.unopened

pub returns-clause-runs : goal.returns-clause-runs
returns-clause-runs g c =
    answered _
    (λ text. IsReported text (g.E.Drain.contents c.args.errors.now) (g.E.Drain.contents c.warn_of_both.new.errors) (g.E.Drain.failures c.args.errors.now) (g.E.Drain.failures c.warn_of_both.new.errors))
    (g.W.Drain.contents c.args.writer.now) (g.W.Drain.contents c.run_command-answer.new.writer) c.run_command-answer.result _
    (over_both g.F.Family.family g.F.Family.bytes_of g.O.Reader.Feed.remaining g.O.Reader.Feed.failures (g.O.Opener.known c.args.opener.now) (g.O.Opener.known c.open_two.new.opener)
    c.args.captures.now (Some c.args.requested.1.now.upstream) _ c.in-Ok.files.routes c.in-Ok.files.pair.a c.run_command-answer.new.pair.a c.in-Ok.files.pair.b c.run_command-answer.new.pair.b
    c.in-Ok.ensures.opened (
      subst (λ (m : MergeState). RunsBoth g.F.Family.family g.F.Family.bytes_of c.args.captures.now c.args.requested.0 (writing_of g.F.Family.bytes_of c.args.requested.1.now) c.in-Ok.files.routes
          (begun g.F.Family.family g.F.Family.bytes_of (of_router side.A (port_files c.args.captures.now)) c.in-Ok.files.pair.a) c.run_command-answer.new.pair.a m c.run_command-answer.new.pair.b (g.W.Drain.contents c.args.writer.now) (g.W.Drain.contents c.run_command-answer.new.writer) c.run_command-answer.result) c.begin_both.ensures.census_of_b
          (subst (λ (m : MergeState). RunsBoth g.F.Family.family g.F.Family.bytes_of c.args.captures.now c.args.requested.0 (writing_of g.F.Family.bytes_of c.args.requested.1.now) c.in-Ok.files.routes
          m c.run_command-answer.new.pair.a c.begin_both.new.pair.b c.run_command-answer.new.pair.b (g.W.Drain.contents c.args.writer.now) (g.W.Drain.contents c.run_command-answer.new.writer) c.run_command-answer.result) c.begin_both.ensures.census_of_a c.run_command-answer.ensures.runs),
      rw (← c.is_ok-is_whole.ensures.value) c.warn_of_both.ensures,
    ))
