use Rattle.pim_trace.proofs.Words.{◌≡◌, ℕ, List, drop, option_map}
use Rattle.pim_events.specs.declared.event.WantedEntry.{WantedEntry}
use Rattle.pim_events.specs.declared.event.WantedWhat.TheVariants.{Except}
use Rattle.pim_trace.specs.StateEvents.{wanted_of}
use Rattle.pim_trace.proofs.Writing.{IsWriting}
use Rattle.pim_trace.proofs.StateTexts.{address_text}
use Rattle.pim_trace.proofs.state_events.write_exceptions.Given as goal

-- the exceptions that are left are still to be written
abbrev pub invariant-loop-source : goal.invariant-loop-source
invariant-loop-source g l =
    let bytes_of = g.F.Family.bytes_of in
    let entry : List ℕ → WantedEntry (List ℕ) =
    λ source. wanted_of (bytes_of l.group) (option_map bytes_of l.via) (Except source) in
    let text = address_text (g.T.EventWriter.line l.event_writer) l.at.ms l.at.epoch bytes_of entry in
    IsWriting (g.T.EventWriter.contents l.fn.device) (g.T.EventWriter.contents l.device)
    (text (drop l.source-index l.exceptions)) (text l.exceptions)
    × (g.T.EventWriter.failures l.device ≡ g.T.EventWriter.failures l.fn.device)
