use Rattle.pim_audit.proofs.Words.{◌≡◌, ◌≤◌, max, RouterState, setup_of, turns_left, HappensTo}
use Rattle.pim_audit.specs.Touched.{Grows, OthersStay}
use Rattle.pim_audit.proofs.passing.fire_router.Given as goal

-- what happens from here happens from the start
abbrev pub invariant-loop-firing : goal.invariant-loop-firing
invariant-loop-firing g l = record {
  on : (after : RouterState) → HappensTo l.moment l.router after → HappensTo l.moment l.fn.router after;
  setup : setup_of l.router ≡ setup_of l.fn.router;
  later : l.fn.router.machines.moment ≤ l.router.machines.moment;
  within : l.router.machines.moment ≤ max l.fn.router.machines.moment l.moment;
  stays : OthersStay l.touched l.fn.router.machines l.router.machines;
  grows : Grows l.fn.touched l.touched;
}

abbrev pub decreases-loop-firing : goal.decreases-loop-firing
decreases-loop-firing g l = turns_left l.moment l.router
