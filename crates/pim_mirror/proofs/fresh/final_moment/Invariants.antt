use Rattle.pim_mirror.proofs.Words.{◌≡◌, ◌≤◌, ◌^◌, map, max, length, final_moment, delivery_seen, AreEarly}
use Rattle.pim_mirror.proofs.Finals.{newest}
use Rattle.pim_mirror.proofs.fresh.final_moment.Given as goal

-- the latest so far and that of those that are left is that of all
abbrev pub invariant-loop-delivery : goal.invariant-loop-delivery
invariant-loop-delivery l = record {
  latest : max l.latest (final_moment l.interval (newest l.left)) ≡ final_moment l.interval (newest l.deliveries);
  early : AreEarly (map delivery_seen l.left);
  bound : l.latest ≤ 10 ^ 15;
}

abbrev pub decreases-loop-delivery : goal.decreases-loop-delivery
decreases-loop-delivery l = length l.left
