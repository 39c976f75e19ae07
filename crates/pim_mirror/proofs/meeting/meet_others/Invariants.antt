use Rattle.pim_mirror.proofs.Words.{◌≡◌, map, drop, RouterState, neighbour_seen, PassesHellos}
use Rattle.pim_mirror.proofs.meeting.meet_others.Given as goal

-- whom those that are left meet from here, all meet from the start
abbrev pub invariant-loop-other : goal.invariant-loop-other
invariant-loop-other g l =
    ((after : RouterState) →
    PassesHellos g.F.Family.family (map (neighbour_seen g.F.Family.bytes_of) (drop l.other-index l.others)) l.router after →
    PassesHellos g.F.Family.family (map (neighbour_seen g.F.Family.bytes_of) l.others) l.fn.router after)
    × (l.router.ports ≡ l.fn.router.ports)
