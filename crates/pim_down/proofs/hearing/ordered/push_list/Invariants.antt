use Rattle.pim_down.proofs.Words.{◌≡◌, ◌++◌, map, list_events, rp_of, event_seen}
use Rattle.pim_down.proofs.hearing.ordered.push_list.Given as goal

-- the events so far and those of the entries that are left are those before and those of all
abbrev pub invariant-loop-entry : goal.invariant-loop-entry
invariant-loop-entry g l =
    map (event_seen g.F.Family.bytes_of) l.events.items ++ list_events (rp_of g.F.Family.family l.routes) l.joins (g.F.Family.bytes_of l.group) l.entry-iterator
    ≡ map (event_seen g.F.Family.bytes_of) l.fn.events.items ++ list_events (rp_of g.F.Family.family l.routes) l.joins (g.F.Family.bytes_of l.group) l.fn.entries
