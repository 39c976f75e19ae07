use Rattle.std.proofs.Common.{◌≡◌, ◌≤◌, max}
use Rattle.pim_router.specs.State.{setup_of}
use Rattle.pim_router.specs.Time.{turns_left}
use Rattle.library_examples.proofs.packets_to_messages.run.Given as goal

abbrev pub invariant-loop-step : goal.invariant-loop-step
invariant-loop-step l = record {
  later : l.fn.router.machines.moment ≤ l.router.machines.moment;
  moment : l.router.machines.moment ≤ max l.fn.router.machines.moment l.fn.until;
  setup : setup_of l.router ≡ setup_of l.fn.router;
}

-- each run that tells something comes nearer to the moment
abbrev pub decreases-loop-step : goal.decreases-loop-step
decreases-loop-step l = turns_left l.fn.until l.router
