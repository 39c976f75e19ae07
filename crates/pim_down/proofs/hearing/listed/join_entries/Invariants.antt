use Rattle.pim_down.proofs.Words.{◌≡◌, map, entry_of_event, event_seen, records_seen}
use Rattle.pim_down.proofs.Listing.{seen_from}
use Rattle.pim_down.proofs.Stays.{JoinsPruned}
use Rattle.pim_down.proofs.hearing.listed.join_entries.Given as goal

-- what the events that are left make stay is what all make stay
abbrev pub invariant-loop-event : goal.invariant-loop-event
invariant-loop-event g l = record {
  joins : JoinsPruned l.port (g.F.Family.bytes_of l.group) (map entry_of_event (map (event_seen g.F.Family.bytes_of) l.named)) (records_seen g.F.Family.bytes_of l.fn.records.items) (map entry_of_event (seen_from g.F.Family.bytes_of l.event-index l.named)) (records_seen g.F.Family.bytes_of l.records.items);
  capacity : l.records.capacity ≡ l.fn.records.capacity;
}
