use Rattle.pim_transitions.proofs.Words.{◌≡◌, ◌++◌, map, flat_map, set_events, events_of, rp_of, event_seen}
use Rattle.pim_transitions.proofs.marks.push_events.Given as goal

-- the marks so far and the events of the sets that are left are those before and those of all
abbrev pub invariant-loop-set : goal.invariant-loop-set
invariant-loop-set g l =
    map (event_seen g.F.Family.bytes_of) l.marks.items ++ flat_map (set_events (rp_of g.F.Family.family l.routes)) l.set-iterator
    ≡ map (event_seen g.F.Family.bytes_of) l.fn.marks.items ++ events_of (rp_of g.F.Family.family l.routes) l.message
