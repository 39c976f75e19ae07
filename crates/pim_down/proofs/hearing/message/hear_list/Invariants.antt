use Rattle.pim_down.proofs.Words.{◌≡◌, ◌≤◌, length, IsAscending, list_events, act_all, HasRoom, rp_of, start_seen, records_seen}
use Rattle.pim_down.proofs.hearing.message.hear_list.Given as goal

-- what the entries that are left leave is what all leave
abbrev pub invariant-loop-entry : goal.invariant-loop-entry
invariant-loop-entry g l = record {
  ascending : IsAscending (records_seen g.F.Family.bytes_of l.records.items);
  room : HasRoom l.arrival.port (start_seen l.arrival.start) l.records.capacity (list_events (rp_of g.F.Family.family l.routes) l.joins (g.F.Family.bytes_of l.group) l.left) (records_seen g.F.Family.bytes_of l.records.items);
  left : act_all l.arrival.port (start_seen l.arrival.start) (list_events (rp_of g.F.Family.family l.routes) l.joins (g.F.Family.bytes_of l.group) l.left) (records_seen g.F.Family.bytes_of l.records.items) ≡ act_all l.arrival.port (start_seen l.arrival.start) (list_events (rp_of g.F.Family.family l.routes) l.joins (g.F.Family.bytes_of l.group) l.fn.list.entries) (records_seen g.F.Family.bytes_of l.fn.records.items);
  capacity : l.fn.records.capacity ≤ l.records.capacity;
}

abbrev pub decreases-loop-entry : goal.decreases-loop-entry
decreases-loop-entry g l = length l.left
