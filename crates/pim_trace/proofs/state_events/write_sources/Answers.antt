use Rattle.pim_trace.proofs.Words.{List, ℕ, Option, refl, subst, ◌∙◌, arith, drop_all, Appends, AppendsFront}
use Rattle.pim_events.specs.declared.event.WantedEntry.{WantedEntry}
use Rattle.pim_events.specs.declared.event.WantedWhat.TheVariants.{Source}
use Rattle.pim_trace.specs.StateEvents.{source_entry, wanted_event, wanted_of}
use Rattle.pim_trace.proofs.Writing.{start_writing, stopped}
use Rattle.pim_trace.proofs.StateTexts.{address_piece, address_text, address_cons, item_written, item_begun, none_left, left_at}
use Rattle.pim_trace.proofs.state_events.write_sources.Goals as goal

pub loop-source-init : goal.loop-source-init
loop-source-init g c = (start_writing _ _, refl)

pub returns-in_err-write_entry-clause-bytes : goal.returns-in_err-write_entry-clause-bytes
returns-in_err-write_entry-clause-bytes g c =
    let bytes_of = g.F.Family.bytes_of in
    let line = g.T.EventWriter.line c.args.event_writer.now in
    let at = c.args.at.now in
    let entry : List ℕ → WantedEntry (List ℕ) = source_entry g.F.Family.family c.args.routes.now (bytes_of c.args.group) in
    stopped _ _ c.from_residual.result _ c.from_residual.ensures.0
    (item_begun (address_piece line at.ms at.epoch bytes_of entry) (address_text line at.ms at.epoch bytes_of entry)
    (address_cons line at.ms at.epoch bytes_of entry)
    _ _ _ _ c.loop-source.invariant.0 _ c.source-item.result _
    (left_at c.args.sources.now c.loop-source.source-index c.source-item.result c.loop-source-test.true c.source-item.is)
    (subst (λ (via : Option (List ℕ)). AppendsFront (g.T.EventWriter.contents c.loop-source.device)
    (g.T.EventWriter.contents c.write_entry.new.device)
    (line (wanted_event at.ms at.epoch (wanted_of (bytes_of c.args.group) via (Source (bytes_of c.source-item.result))))))
    c.via-via.ensures c.in_err-write_entry.ensures.bytes))

pub loop-source-preserved : goal.loop-source-preserved
loop-source-preserved g c =
    let bytes_of = g.F.Family.bytes_of in
    let line = g.T.EventWriter.line c.args.event_writer.now in
    let at = c.args.at.now in
    let entry : List ℕ → WantedEntry (List ℕ) = source_entry g.F.Family.family c.args.routes.now (bytes_of c.args.group) in (
      item_written (address_piece line at.ms at.epoch bytes_of entry) (address_text line at.ms at.epoch bytes_of entry)
          (address_cons line at.ms at.epoch bytes_of entry)
          _ _ _ _ c.loop-source.invariant.0 _ c.source-item.result _
          (left_at c.args.sources.now c.loop-source.source-index c.source-item.result c.loop-source-test.true c.source-item.is)
          (subst (λ (via : Option (List ℕ)). Appends (g.T.EventWriter.contents c.loop-source.device)
          (g.T.EventWriter.contents c.write_entry.new.device)
          (line (wanted_event at.ms at.epoch (wanted_of (bytes_of c.args.group) via
          (Source (bytes_of c.source-item.result))))))
          c.via-via.ensures c.in_ok-write_entry.ensures.bytes),
      c.in_ok-write_entry.ensures.count ∙ c.loop-source.invariant.1,
    )

pub returns-clause-bytes : goal.returns-clause-bytes
returns-clause-bytes g c =
    let bytes_of = g.F.Family.bytes_of in
    let line = g.T.EventWriter.line c.args.event_writer.now in
    let at = c.args.at.now in
    let entry : List ℕ → WantedEntry (List ℕ) = source_entry g.F.Family.family c.args.routes.now (bytes_of c.args.group) in
    none_left (address_piece line at.ms at.epoch bytes_of entry) (address_text line at.ms at.epoch bytes_of entry)
    (address_cons line at.ms at.epoch bytes_of entry)
    _ _ _ _ c.loop-source.invariant.0 refl (drop_all c.loop-source.source-index c.args.sources.now
    (omega (arith, c.loop-source-test.false)))
