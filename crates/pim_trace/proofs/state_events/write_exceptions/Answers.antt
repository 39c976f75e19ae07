use Rattle.pim_trace.proofs.Words.{List, ℕ, option_map, refl, ◌∙◌, arith, drop_all}
use Rattle.pim_events.specs.declared.event.WantedEntry.{WantedEntry}
use Rattle.pim_events.specs.declared.event.WantedWhat.TheVariants.{Except}
use Rattle.pim_trace.specs.StateEvents.{wanted_of}
use Rattle.pim_trace.proofs.Writing.{start_writing, stopped}
use Rattle.pim_trace.proofs.StateTexts.{address_piece, address_text, address_cons, item_written, item_begun, none_left, left_at}
use Rattle.pim_trace.proofs.state_events.write_exceptions.Goals as goal

pub loop-source-init : goal.loop-source-init
loop-source-init g c = (start_writing _ _, refl)

pub returns-in_err-write_entry-clause-bytes : goal.returns-in_err-write_entry-clause-bytes
returns-in_err-write_entry-clause-bytes g c =
    let bytes_of = g.F.Family.bytes_of in
    let line = g.T.EventWriter.line c.args.event_writer.now in
    let at = c.args.at.now in
    let entry : List ℕ → WantedEntry (List ℕ) =
    λ source. wanted_of (bytes_of c.args.group) (option_map bytes_of c.args.via) (Except source) in
    stopped _ _ c.from_residual.result _ c.from_residual.ensures.0
    (item_begun (address_piece line at.ms at.epoch bytes_of entry) (address_text line at.ms at.epoch bytes_of entry)
    (address_cons line at.ms at.epoch bytes_of entry)
    _ _ _ _ c.loop-source.invariant.0 _ c.source-item.result _
    (left_at c.args.exceptions.now c.loop-source.source-index c.source-item.result c.loop-source-test.true c.source-item.is)
    c.in_err-write_entry.ensures.bytes)

pub loop-source-preserved : goal.loop-source-preserved
loop-source-preserved g c =
    let bytes_of = g.F.Family.bytes_of in
    let line = g.T.EventWriter.line c.args.event_writer.now in
    let at = c.args.at.now in
    let entry : List ℕ → WantedEntry (List ℕ) =
    λ source. wanted_of (bytes_of c.args.group) (option_map bytes_of c.args.via) (Except source) in (
      item_written (address_piece line at.ms at.epoch bytes_of entry) (address_text line at.ms at.epoch bytes_of entry)
          (address_cons line at.ms at.epoch bytes_of entry)
          _ _ _ _ c.loop-source.invariant.0 _ c.source-item.result _
          (left_at c.args.exceptions.now c.loop-source.source-index c.source-item.result c.loop-source-test.true
          c.source-item.is) c.in_ok-write_entry.ensures.bytes,
      c.in_ok-write_entry.ensures.count ∙ c.loop-source.invariant.1,
    )

pub returns-clause-bytes : goal.returns-clause-bytes
returns-clause-bytes g c =
    let bytes_of = g.F.Family.bytes_of in
    let line = g.T.EventWriter.line c.args.event_writer.now in
    let at = c.args.at.now in
    let entry : List ℕ → WantedEntry (List ℕ) =
    λ source. wanted_of (bytes_of c.args.group) (option_map bytes_of c.args.via) (Except source) in
    none_left (address_piece line at.ms at.epoch bytes_of entry) (address_text line at.ms at.epoch bytes_of entry)
    (address_cons line at.ms at.epoch bytes_of entry)
    _ _ _ _ c.loop-source.invariant.0 refl (drop_all c.loop-source.source-index c.args.exceptions.now
    (omega (arith, c.loop-source-test.false)))
