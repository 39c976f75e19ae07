-- What is kept between the turns of an audit, and what holds of it before each turn.
use Rattle.std.specs.Prelude.{◌≡◌, ◌≤◌, ◌^◌, length}
use Rattle.pim_addr.specs.declared.family.AddressFamily.{AddressFamily}
use Rattle.pim_router.specs.State.{RouterState}
use Rattle.pim_audit.specs.Holding.{HoldsOutside}
use Rattle.pim_audit.specs.Run.{RunState}
use Rattle.pim_audit.specs.Touched.{TouchedMachines}

-- The state of the run, and the machines that something touched since the last look.
pub record TrackedRun : Type 0 where
  pub run : RunState
  pub touched : TouchedMachines

-- Before each turn each port is counted, no time has passed for the router that hasn't passed for the
-- audit, and what is held as due is right but for the touched machines.
pub record IsReady (family : AddressFamily) (tracked : TrackedRun) (router : RouterState) : Type 0 where
  pub frames : length tracked.run.progress.frames ≡ length router.ports
  pub own : length tracked.run.progress.own ≡ length router.ports
  pub step : tracked.run.audit.asked.moment ≡ router.machines.moment
  pub present : router.machines.moment ≤ 10 ^ 15
  pub holds : HoldsOutside family tracked.touched tracked.run.audit router
