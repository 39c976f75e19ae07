use Rattle.pim_mirror.proofs.Words.{◌≡◌, map, drop, None, delivery_seen, is_kept}
use Rattle.pim_mirror.proofs.fitting.is_kept.Given as goal

-- the test of those that are left is that of all
abbrev pub invariant-loop-delivery : goal.invariant-loop-delivery
invariant-loop-delivery l =
    is_kept l.expiry l.end l.message l.last (map delivery_seen (drop l.delivery-index l.deliveries))
    ≡ is_kept l.expiry l.end l.message None (map delivery_seen l.deliveries)
