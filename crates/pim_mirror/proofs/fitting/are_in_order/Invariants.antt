use Rattle.pim_mirror.proofs.Words.{◌≡◌, map, drop, delivery_seen, is_in_order}
use Rattle.pim_mirror.proofs.fitting.are_in_order.Given as goal

-- the test of those that are left is that of all
abbrev pub invariant-loop-delivery : goal.invariant-loop-delivery
invariant-loop-delivery l =
    is_in_order l.end l.previous (map delivery_seen (drop l.delivery-index l.deliveries))
    ≡ is_in_order l.end 0 (map delivery_seen l.deliveries)
