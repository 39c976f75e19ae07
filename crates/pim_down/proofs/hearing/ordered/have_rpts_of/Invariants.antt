use Rattle.pim_down.proofs.Words.{◌≡◌, map, list_any, is_of_rpts_of, event_seen}
use Rattle.pim_down.proofs.Listing.{seen_from}
use Rattle.pim_down.proofs.hearing.ordered.have_rpts_of.Given as goal

-- one of those that are left is one of them exactly where one of all is
abbrev pub invariant-loop-event : goal.invariant-loop-event
invariant-loop-event g l =
    list_any (is_of_rpts_of (g.F.Family.bytes_of l.group)) (seen_from g.F.Family.bytes_of l.event-index l.events)
    ≡ list_any (is_of_rpts_of (g.F.Family.bytes_of l.group)) (map (event_seen g.F.Family.bytes_of) l.events)
