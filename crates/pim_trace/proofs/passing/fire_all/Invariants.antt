use Rattle.pim_trace.proofs.Words.{◌≡◌, ◌≤◌, [], max, setup_of, turns_left, ledger_seen, gone_by}
use Rattle.pim_trace.proofs.OnTheWay.{IsOnTheWay}
use Rattle.pim_trace.proofs.passing.fire_all.Given as goal

-- what happens from here happens from the start, and nobody goes
abbrev pub invariant-loop-firing : goal.invariant-loop-firing
invariant-loop-firing g l = record {
  way : IsOnTheWay (g.T.EventWriter.line l.fn.event_writer) l.fn.moment (ledger_seen g.F.Family.bytes_of l.fn.ledger) l.fn.router (g.T.EventWriter.contents l.fn.device)
      (ledger_seen g.F.Family.bytes_of l.ledger) l.router (g.T.EventWriter.contents l.device);
  nobody : gone_by l.fn.moment l.router ≡ [];
  failures : g.T.EventWriter.failures l.device ≡ g.T.EventWriter.failures l.fn.device;
  later : l.fn.router.machines.moment ≤ l.router.machines.moment;
  within : l.router.machines.moment ≤ max l.fn.router.machines.moment l.fn.moment;
  setup : setup_of l.router ≡ setup_of l.fn.router;
  frames : l.ledger.frames.items ≡ l.fn.ledger.frames.items;
  own : l.ledger.own.items ≡ l.fn.ledger.own.items;
}

-- each timer that fires brings the router nearer to the moment
abbrev pub decreases-loop-firing : goal.decreases-loop-firing
decreases-loop-firing g l = turns_left l.fn.moment l.router
