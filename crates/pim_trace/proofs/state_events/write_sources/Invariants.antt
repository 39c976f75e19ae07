use Rattle.pim_trace.proofs.Words.{◌≡◌, drop}
use Rattle.pim_trace.specs.StateEvents.{source_entry}
use Rattle.pim_trace.proofs.Writing.{IsWriting}
use Rattle.pim_trace.proofs.StateTexts.{address_text}
use Rattle.pim_trace.proofs.state_events.write_sources.Given as goal

-- the sources that are left are still to be written
abbrev pub invariant-loop-source : goal.invariant-loop-source
invariant-loop-source g l =
    let bytes_of = g.F.Family.bytes_of in
    let entry = source_entry g.F.Family.family l.routes (bytes_of l.group) in
    let text = address_text (g.T.EventWriter.line l.event_writer) l.at.ms l.at.epoch bytes_of entry in
    IsWriting (g.T.EventWriter.contents l.fn.device) (g.T.EventWriter.contents l.device)
    (text (drop l.source-index l.sources)) (text l.sources)
    × (g.T.EventWriter.failures l.device ≡ g.T.EventWriter.failures l.fn.device)
