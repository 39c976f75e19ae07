use Rattle.pim_transitions.proofs.Words.{map, flat_map, set_events, events_of, rp_of, event_seen}
use Rattle.pim_transitions.proofs.StarSets.{AreMarkedTo}
use Rattle.pim_transitions.proofs.stars.star_marks.Given as goal

-- what the sets so far reach is marked, and the others are left
abbrev pub invariant-loop-set : goal.invariant-loop-set
invariant-loop-set g l =
    let bytes_of = g.F.Family.bytes_of in
    let known = rp_of g.F.Family.family l.routes in
    AreMarkedTo l.port l.ports.records (events_of known l.message) (flat_map (set_events known) l.set-iterator)
    (map (event_seen bytes_of) l.marks.items) (map bytes_of l.walked.items)
