use Rattle.std.proofs.Common.{◌≤◌, ◌<◌, ◌-◌, ◌^◌, min}
use Rattle.pim_addr.proofs.CountBelow.{Halved}
use Rattle.pim_addr.proofs.below.count_below.Given as goal

abbrev pub invariant-loop-shift : goal.invariant-loop-shift
invariant-loop-shift g l = record {
  few : l.shift < 64;
  halved : Halved g.T.Ord.cmp l.fn.sorted l.fn.item l.base (2 ^ l.shift);
}

abbrev pub invariant-loop-done : goal.invariant-loop-done
invariant-loop-done g l = record {
  few : l.shift ≤ 12;
  halved : Halved g.T.Ord.cmp l.fn.sorted l.fn.item l.base (2 ^ min l.shift (12 - l.done));
}

abbrev pub decreases-loop-shift : goal.decreases-loop-shift
decreases-loop-shift g l = l.shift
