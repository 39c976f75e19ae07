use Rattle.pim_replay.proofs.Words.{◌≡◌, ◌≤◌, max, setup_of, turns_left}
use Rattle.pim_replay.proofs.OnTheWay.{IsOnTheWay}
use Rattle.pim_replay.proofs.passing.pass_time.Given as goal

-- what is told from here is told from the start, and the moment lies between
abbrev pub invariant-loop-port : goal.invariant-loop-port
invariant-loop-port g l = record {
  way : IsOnTheWay l.fn.moment (g.L.Listener.line l.fn.listener) l.fn.router (g.L.Listener.contents l.fn.device) l.fn.counts l.router (g.L.Listener.contents l.device) l.refreshes;
  failures : g.L.Listener.failures l.device ≡ g.L.Listener.failures l.fn.device;
  later : l.fn.router.machines.moment ≤ l.router.machines.moment;
  within : l.router.machines.moment ≤ max l.fn.router.machines.moment l.fn.moment;
  setup : setup_of l.router ≡ setup_of l.fn.router;
}

-- each run that tells something comes nearer to the moment
abbrev pub decreases-loop-port : goal.decreases-loop-port
decreases-loop-port g l = turns_left l.fn.moment l.router
