use Rattle.pim_down.proofs.Words.{rp_of, records_seen}
use Rattle.pim_down.proofs.Ending.{EndsBy}
use Rattle.pim_down.proofs.Events.{sets_events}
use Rattle.pim_down.proofs.hearing.end.end_sets.Given as goal

-- what the sets that are left leave is what all leave
abbrev pub invariant-loop-set : goal.invariant-loop-set
invariant-loop-set g l = EndsBy l.port (records_seen g.F.Family.bytes_of l.fn.records.items) (records_seen g.F.Family.bytes_of l.records.items) (sets_events (rp_of g.F.Family.family l.routes) l.set-iterator)
