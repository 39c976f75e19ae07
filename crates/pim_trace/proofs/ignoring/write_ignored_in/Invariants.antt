use Rattle.pim_trace.proofs.Words.{◌≡◌, rp_of, ignored_entry, ledger_seen}
use Rattle.pim_trace.proofs.Loops.{told_of}
use Rattle.pim_trace.proofs.Writing.{IsWriting}
use Rattle.pim_trace.proofs.ignoring.write_ignored_in.Given as goal

-- the entries that are left are still to be told
abbrev pub invariant-loop-entry : goal.invariant-loop-entry
invariant-loop-entry g l =
    let bytes_of = g.F.Family.bytes_of in
    let says = ignored_entry l.packet.frame (bytes_of l.packet.source) (rp_of g.F.Family.family l.router.routes) (bytes_of l.group) in
    let reported = told_of (g.T.EventWriter.line l.event_writer) (ledger_seen bytes_of l.ledger) l.ms l.packet.port says in
    IsWriting (g.T.EventWriter.contents l.fn.device) (g.T.EventWriter.contents l.device) (reported l.entry-iterator) (reported l.fn.set.joined)
    × (g.T.EventWriter.failures l.device ≡ g.T.EventWriter.failures l.fn.device)
