use Rattle.pim_audit.proofs.Words.{◌≡◌, ◌≤◌, setup_of, IsQuiet}
use Rattle.pim_audit.specs.Holding.{HoldsOutside}
use Rattle.pim_audit.specs.Steps.{ReachesBy}
use Rattle.pim_audit.proofs.PassSteps.{Leads, time_left}
use Rattle.pim_audit.proofs.passing.pass_time.Given as goal

-- the last step leads to the moment, and nothing is due after it
abbrev pub invariant-loop-passed : goal.invariant-loop-passed
invariant-loop-passed g l = record {
  leads : Leads g.F.Family.family g.F.Family.bytes_of l.moment l.fn.ended.items l.fn.tracked.audit l.fn.router l.ended.items l.passed l.tracked.audit l.router;
  quiet : IsQuiet l.tracked.audit l.router;
  step : l.tracked.audit.asked.moment ≡ l.router.machines.moment;
  by : ReachesBy l.moment l.fn.router l.router l.passed;
  later : l.fn.router.machines.moment ≤ l.router.machines.moment;
  present : l.router.machines.moment ≤ 1000000000000000;
  setup : setup_of l.router ≡ setup_of l.fn.router;
  holds : HoldsOutside g.F.Family.family l.tracked.touched l.tracked.audit l.router;
}

-- after an end the next one is later
abbrev pub decreases-loop-passed : goal.decreases-loop-passed
decreases-loop-passed g l = time_left l.moment l.passed l.router
