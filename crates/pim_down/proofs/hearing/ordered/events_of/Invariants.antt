use Rattle.pim_down.proofs.Words.{◌≡◌, ◌++◌, map, rp_of, event_seen}
use Rattle.pim_down.proofs.Events.{sets_events}
use Rattle.pim_down.proofs.hearing.ordered.events_of.Given as goal

-- the events so far and those of the sets that are left are all
abbrev pub invariant-loop-set : goal.invariant-loop-set
invariant-loop-set g l =
    map (event_seen g.F.Family.bytes_of) l.events.items ++ sets_events (rp_of g.F.Family.family l.routes) l.set-iterator
    ≡ sets_events (rp_of g.F.Family.family l.routes) l.message.sets
