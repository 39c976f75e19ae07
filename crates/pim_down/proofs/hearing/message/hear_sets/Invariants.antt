use Rattle.pim_down.proofs.Words.{◌≡◌, IsAscending, act_all, HasRoom, rp_of, start_seen, records_seen}
use Rattle.pim_down.proofs.Events.{sets_events}
use Rattle.pim_down.proofs.hearing.message.hear_sets.Given as goal

-- what the sets that are left leave is what all leave
abbrev pub invariant-loop-set : goal.invariant-loop-set
invariant-loop-set g l = record {
  ascending : IsAscending (records_seen g.F.Family.bytes_of l.records.items);
  room : HasRoom l.arrival.port (start_seen l.arrival.start) l.records.capacity (sets_events (rp_of g.F.Family.family l.routes) l.set-iterator) (records_seen g.F.Family.bytes_of l.records.items);
  left : act_all l.arrival.port (start_seen l.arrival.start) (sets_events (rp_of g.F.Family.family l.routes) l.set-iterator) (records_seen g.F.Family.bytes_of l.records.items) ≡ act_all l.arrival.port (start_seen l.arrival.start) (sets_events (rp_of g.F.Family.family l.routes) l.message.sets) (records_seen g.F.Family.bytes_of l.fn.records.items);
}
