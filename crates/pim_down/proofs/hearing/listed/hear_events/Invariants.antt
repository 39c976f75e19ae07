use Rattle.pim_down.proofs.Words.{◌≡◌, map, IsAscending, act_all, IsLast, HasRoom, start_seen, event_seen, records_seen}
use Rattle.pim_down.proofs.Listing.{seen_from}
use Rattle.pim_down.proofs.hearing.listed.hear_events.Given as goal

-- what the events that are left leave is what all leave
abbrev pub invariant-loop-index : goal.invariant-loop-index
invariant-loop-index g l = record {
  ascending : IsAscending (records_seen g.F.Family.bytes_of l.records.items);
  room : HasRoom l.arrival.port (start_seen l.arrival.start) l.records.capacity (seen_from g.F.Family.bytes_of l.index l.events) (records_seen g.F.Family.bytes_of l.records.items);
  left : act_all l.arrival.port (start_seen l.arrival.start) (seen_from g.F.Family.bytes_of l.index l.events) (records_seen g.F.Family.bytes_of l.records.items)
      ≡ act_all l.arrival.port (start_seen l.arrival.start) (map (event_seen g.F.Family.bytes_of) l.events) (records_seen g.F.Family.bytes_of l.fn.records.items);
  last : IsLast g.F.Family.bytes_of l.arrival.port l.events l.index l.last (records_seen g.F.Family.bytes_of l.records.items);
}
