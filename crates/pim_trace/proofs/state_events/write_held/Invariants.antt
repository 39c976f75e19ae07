use Rattle.pim_trace.proofs.Words.{◌≡◌, ledger_seen}
use Rattle.pim_trace.proofs.Writing.{IsWriting}
use Rattle.pim_trace.proofs.StateTexts.{held_text}
use Rattle.pim_trace.proofs.state_events.write_held.Given as goal

-- the machines that are left are still to be written
abbrev pub invariant-loop-reported : goal.invariant-loop-reported
invariant-loop-reported g l =
    let text = held_text (g.T.EventWriter.line l.event_writer) (ledger_seen g.F.Family.bytes_of l.ledger)
    l.router.machines.moment in
    IsWriting (g.T.EventWriter.contents l.fn.device) (g.T.EventWriter.contents l.device) (text l.reported-iterator)
    (text l.fn.router.machines.records)
    × (g.T.EventWriter.failures l.device ≡ g.T.EventWriter.failures l.fn.device)
