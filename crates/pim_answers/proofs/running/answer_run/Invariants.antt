use Rattle.pim_answers.proofs.Words.{◌≡◌, turns_left}
use Rattle.pim_answers.proofs.Runs.{IsOnTheWay}
use Rattle.pim_answers.proofs.running.answer_run.Given as goal

-- what is told from here is told from the start
abbrev pub invariant-runs : goal.invariant-runs
invariant-runs g l = record {
  way : IsOnTheWay g.F.Family.family l.fn.moment l.fn.router l.router (g.W.Drain.contents l.fn.answers) (g.W.Drain.contents l.answers);
  failures : g.W.Drain.failures l.answers ≡ g.W.Drain.failures l.fn.answers;
}

-- each run that tells something comes nearer to the moment
abbrev pub decreases-runs : goal.decreases-runs
decreases-runs g l = turns_left l.fn.moment l.router
