use Rattle.pim_transitions.proofs.Words.{◌≡◌, ◌++◌, map, list_events, rp_of, event_seen}
use Rattle.pim_transitions.proofs.marks.push_list.Given as goal

-- the marks so far and the events of the entries that are left are those before and those of all
abbrev pub invariant-loop-entry : goal.invariant-loop-entry
invariant-loop-entry g l =
    map (event_seen g.F.Family.bytes_of) l.marks.items ++ list_events (rp_of g.F.Family.family l.routes) l.joins (g.F.Family.bytes_of l.group) l.entry-iterator
    ≡ map (event_seen g.F.Family.bytes_of) l.fn.marks.items ++ list_events (rp_of g.F.Family.family l.routes) l.joins (g.F.Family.bytes_of l.group) l.fn.entries
