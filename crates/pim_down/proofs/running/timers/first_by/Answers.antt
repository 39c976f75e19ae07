use Rattle.pim_down.proofs.Words.{sym, ap, ◌∙◌, ends_by, deadline_seen, records_seen}
use Rattle.pim_down.proofs.FirstTimer.{first_end_some, first_end_none}
use Rattle.pim_down.proofs.running.timers.first_by.Goals as goal

pub returns-in-None-clause-first : goal.returns-in-None-clause-first
returns-in-None-clause-first g c = ap (ends_by c.args.last) (first_end_none (records_seen g.F.Family.bytes_of c.args.records.now.items) (sym c.in-None.ensures))

pub returns-else-is_due-clause-first : goal.returns-else-is_due-clause-first
returns-else-is_due-clause-first g c =
    ap (ends_by c.args.last) (first_end_some (records_seen g.F.Family.bytes_of c.args.records.now.items) (deadline_seen g.F.Family.bytes_of c.in-Some.first) (sym c.in-Some.ensures)) ∙ sym c.is_due.ensures.due ∙ c.if-is_due.false
