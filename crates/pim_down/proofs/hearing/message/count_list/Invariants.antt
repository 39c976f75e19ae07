use Rattle.pim_down.proofs.Words.{◌≡◌, ◌+◌, list_events, count_new, rp_of, records_seen}
use Rattle.pim_down.proofs.hearing.message.count_list.Given as goal

-- those so far and those of the entries that are left are those of all
abbrev pub invariant-loop-entry : goal.invariant-loop-entry
invariant-loop-entry g l = l.count + count_new l.port (records_seen g.F.Family.bytes_of l.records.items) (list_events (rp_of g.F.Family.family l.routes) l.joins (g.F.Family.bytes_of l.group) l.entry-iterator) ≡ count_new l.port (records_seen g.F.Family.bytes_of l.records.items) (list_events (rp_of g.F.Family.family l.routes) l.joins (g.F.Family.bytes_of l.group) l.fn.list.entries)
