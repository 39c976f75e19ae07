use Rattle.pim_down.proofs.Words.{◌≡◌, Some, not, filter, is_over_in, records_seen}
use Rattle.pim_down.proofs.Ending.{EndsBy}
use Rattle.pim_down.proofs.Listing.{seen_from}
use Rattle.pim_down.proofs.hearing.end.end_events.Given as goal

-- what the events that are left leave is what all leave, and the last group has none left
abbrev pub invariant-loop-event : goal.invariant-loop-event
invariant-loop-event g l = record {
  ends : EndsBy l.port (records_seen g.F.Family.bytes_of l.fn.records.items) (records_seen g.F.Family.bytes_of l.records.items) (seen_from g.F.Family.bytes_of l.event-index l.events);
  ended : (other : g.row.F-Addr.Denot) → l.last ≡ Some other → records_seen g.F.Family.bytes_of l.records.items ≡ filter (λ held. not (is_over_in l.port (g.F.Family.bytes_of other) held)) (records_seen g.F.Family.bytes_of l.records.items);
}
