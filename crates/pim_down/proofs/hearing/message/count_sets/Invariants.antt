use Rattle.pim_down.proofs.Words.{◌≡◌, ◌≤◌, ◌+◌, ◌*◌, length, count_new, rp_of, records_seen}
use Rattle.pim_down.proofs.Events.{sets_events}
use Rattle.pim_down.proofs.hearing.message.count_sets.Given as goal

abbrev pub invariant-loop-set : goal.invariant-loop-set
invariant-loop-set g l = record {
  so_far : l.count + count_new l.port (records_seen g.F.Family.bytes_of l.records.items) (sets_events (rp_of g.F.Family.family l.routes) l.set-iterator) ≡ count_new l.port (records_seen g.F.Family.bytes_of l.records.items) (sets_events (rp_of g.F.Family.family l.routes) l.fn.sets);
  bound : l.count + 131070 * length l.set-iterator ≤ 131070 * length l.fn.sets;
}
