use Rattle.pim_mirror.proofs.Words.{◌≡◌, map, drop, Result, flat_map, RouterState, delivery_seen, Passes, StopsAt}
use Rattle.pim_mirror.proofs.Words.{delivery_inputs, MirrorFault}
use Rattle.pim_mirror.proofs.mirroring.hear.Given as goal

-- what those that are left pass from here, all pass from the start; a refusal among those that are left is one among
-- all
abbrev pub invariant-loop-delivery : goal.invariant-loop-delivery
invariant-loop-delivery g l =
    ((result : Result (Unit {0}) MirrorFault) (after : RouterState) →
    Passes g.F.Family.family (flat_map (delivery_inputs g.F.Family.family l.messages (g.F.Family.bytes_of l.sender))
    (map delivery_seen (drop l.delivery-index l.deliveries))) l.router result after →
    Passes g.F.Family.family (flat_map (delivery_inputs g.F.Family.family l.messages (g.F.Family.bytes_of l.sender))
    (map delivery_seen l.deliveries)) l.fn.router result after)
    × (l.router.ports ≡ l.fn.router.ports)
    × ((why : MirrorFault) (after : RouterState) →
    StopsAt g.F.Family.family l.messages (g.F.Family.bytes_of l.sender) (map delivery_seen (drop l.delivery-index l.deliveries)) l.router why after →
    StopsAt g.F.Family.family l.messages (g.F.Family.bytes_of l.sender) (map delivery_seen l.deliveries) l.fn.router why after)
