use Rattle.std.proofs.Common.{◌≡◌, ◌≤◌, length}
use Rattle.pim_capture.specs.Next.{latest_moment}
use Rattle.pim_merge.specs.Next.{turns_left}
use Rattle.pim_router.specs.State.{setup_of}
use Rattle.pim_run.specs.Underway.{IsUnderway}
use Rattle.pim_run.proofs.engine.run.Given as goal

-- the turns so far were taken, and nothing has failed
abbrev pub invariant-loop : goal.invariant-loop
invariant-loop g l = record {
  underway : IsUnderway (g.H.Hooks.takes l.fn.hooks) (g.H.Hooks.begins l.fn.hooks) l.fn.end l.fn.merge l.fn.kept l.fn.router (g.H.Hooks.contents l.fn.device)
      l.merge l.kept l.router (g.H.Hooks.contents l.device);
  failures : g.H.Hooks.failures l.device ≡ g.H.Hooks.failures l.fn.device;
  ports : length l.merge.lanes ≡ length l.router.ports;
  moment : l.router.machines.moment ≤ latest_moment;
  ready : g.H.Hooks.is_ready l.kept l.router;
  setup : setup_of l.router ≡ setup_of l.fn.router;
}

-- each turn takes a record
abbrev pub decreases-loop : goal.decreases-loop
decreases-loop g l = turns_left l.merge
