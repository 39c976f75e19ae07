use Rattle.pim_trace.proofs.Words.{◌≡◌, cause_seen, transitions_to, ledger_seen}
use Rattle.pim_trace.proofs.Loops.{AreLeft}
use Rattle.pim_trace.proofs.changing.write_changes.Given as goal

-- the changes that are left are still to be told and remembered
abbrev pub invariant-loop-change : goal.invariant-loop-change
invariant-loop-change g l =
    let bytes_of = g.F.Family.bytes_of in
    AreLeft (g.T.EventWriter.line l.event_writer) (cause_seen bytes_of l.by.packet) l.by.port l.by.neighbours
    (ledger_seen bytes_of l.fn.ledger) (transitions_to l.fn.router.machines.records l.fn.affected) (ledger_seen bytes_of l.ledger) l.change-iterator
    (g.T.EventWriter.contents l.fn.device) (g.T.EventWriter.contents l.device)
    × (g.T.EventWriter.failures l.device ≡ g.T.EventWriter.failures l.fn.device)
    × (l.ledger.frames.items ≡ l.fn.ledger.frames.items) × (l.ledger.own.items ≡ l.fn.ledger.own.items)
