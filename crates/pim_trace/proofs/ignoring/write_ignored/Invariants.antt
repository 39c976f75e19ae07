use Rattle.pim_trace.proofs.Words.{◌≡◌, rp_of, ignored_in, ledger_seen}
use Rattle.pim_trace.proofs.Loops.{told_of}
use Rattle.pim_trace.proofs.Writing.{IsWriting}
use Rattle.pim_trace.proofs.ignoring.write_ignored.Given as goal

-- the sets that are left are still to be told
abbrev pub invariant-loop-set : goal.invariant-loop-set
invariant-loop-set g l =
    let bytes_of = g.F.Family.bytes_of in
    let says = ignored_in l.packet.frame (bytes_of l.packet.source) (rp_of g.F.Family.family l.router.routes) in
    let reported = told_of (g.T.EventWriter.line l.event_writer) (ledger_seen bytes_of l.ledger) l.router.machines.moment l.packet.port says in
    IsWriting (g.T.EventWriter.contents l.fn.device) (g.T.EventWriter.contents l.device) (reported l.set-iterator) (reported l.fn.sets)
    × (g.T.EventWriter.failures l.device ≡ g.T.EventWriter.failures l.fn.device)
