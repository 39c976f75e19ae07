use Rattle.pim_down.proofs.Words.{sym, deadline_seen, records_seen}
use Rattle.pim_down.proofs.FirstTimer.{first_end_some, first_end_none}
use Rattle.pim_down.proofs.running.timers.next_end.Goals as goal

pub returns-in-None : goal.returns-in-None
returns-in-None g c = sym (first_end_none (records_seen g.F.Family.bytes_of c.args.records.now.items) (sym c.in-None.ensures))

pub returns-in-Some : goal.returns-in-Some
returns-in-Some g c = sym (first_end_some (records_seen g.F.Family.bytes_of c.args.records.now.items) (deadline_seen g.F.Family.bytes_of c.in-Some.first) (sym c.in-Some.ensures))
