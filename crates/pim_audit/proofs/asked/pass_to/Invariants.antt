use Rattle.pim_audit.proofs.Words.{◌≡◌, ◌≤◌, max, weight, Downstream, PassesTo}
use Rattle.pim_audit.specs.Touched.{Grows, OthersStay}
use Rattle.pim_audit.proofs.asked.pass_to.Given as goal

-- what passes from here passes from the start
abbrev pub invariant-loop-firing : goal.invariant-loop-firing
invariant-loop-firing g l = record {
  on : (after : Downstream) → PassesTo l.moment l.asked after → PassesTo l.moment l.fn.asked after;
  ports : l.asked.ports ≡ l.fn.asked.ports;
  limit : l.asked.limit ≡ l.fn.asked.limit;
  later : l.fn.asked.moment ≤ l.asked.moment;
  within : l.asked.moment ≤ max l.fn.asked.moment l.moment;
  stays : OthersStay l.touched l.fn.asked l.asked;
  grows : Grows l.fn.touched l.touched;
}

-- each timer that fires makes the records lighter
abbrev pub decreases-loop-firing : goal.decreases-loop-firing
decreases-loop-firing g l = weight l.asked.records
