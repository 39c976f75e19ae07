use Rattle.pim_session.specs.SetupSeen.{gathered_seen}
use Rattle.pim_session.proofs.Commanded.{command_configured}
use Rattle.pim_session.proofs.session.configure_unless_start.Goals as goal

pub returns-in_default-clause-configured : goal.returns-in_default-clause-configured
returns-in_default-clause-configured g c = λ kept.
    command_configured (gathered_seen c.args.setup.now) kept (g.W.Drain.contents c.args.answers.now) (g.W.Drain.contents c.configure.new.answers) c.configure.result c.and.result c.args.command.now
    (gathered_seen c.configure.new.setup) c.in_default.not-Start c.and.ensures c.configure.ensures.answered
