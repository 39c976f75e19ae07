use Rattle.pim_replay.proofs.Ending.{quiet}
use Rattle.pim_replay.proofs.quiet.replay_quietly.Goals as goal

pub returns-in-Ok-clause-runs : goal.returns-in-Ok-clause-runs
returns-in-Ok-clause-runs g c = record { account = c.in-Ok.ensures.heard.0.account; wrote = c.in-Ok.ensures.heard.0.wrote; counted = c.in-Ok.ensures.heard.1 }

pub returns-in-Err-clause-runs : goal.returns-in-Err-clause-runs
returns-in-Err-clause-runs g c =
    quiet g.F.Family.family c.args.end c.args.merge.now c.replay_for.new.merge c.args.router.now c.replay_for.new.router c.in-Err.fault c.in-Err.ensures.heard c.in-Err.ensures.count c.replay_for.ensures.tallied
