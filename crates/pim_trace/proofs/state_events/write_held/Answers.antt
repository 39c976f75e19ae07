use Rattle.pim_trace.proofs.Words.{List, ℕ, refl, sym, ap, subst, ◌∙◌, Record, Downstream, Appends, AppendsFront, ledger_seen}
use Rattle.pim_down.specs.Seen.{record_of_seen}
use Rattle.pim_events.specs.Events.{held_seen}
use Rattle.pim_trace.proofs.Writing.{IsWriting, start_writing, stopped}
use Rattle.pim_trace.proofs.StateTexts.{held_piece, held_text, held_cons, item_written, item_begun, none_left, held_is}
use Rattle.pim_trace.proofs.state_events.write_held.Goals as goal

pub loop-reported-init : goal.loop-reported-init
loop-reported-init g c =
    let old = g.T.EventWriter.contents c.args.device.now in
    let text = held_text (g.T.EventWriter.line c.args.event_writer.now) (ledger_seen g.F.Family.bytes_of c.args.ledger.now)
    c.args.router.now.machines.moment in (
      subst (λ (left : List (Record (List ℕ))). IsWriting old old (text left) (text c.args.router.now.machines.records))
          (ap (λ (d : Downstream). d.records) (sym c.ports.ensures) ∙ sym c.records-reported-items.ensures.records
          ∙ sym c.into_iter-reported-iterator.ensures.into_iter_gives)
          (start_writing old _),
      refl,
    )

pub returns-in_err-write_on-clause-bytes : goal.returns-in_err-write_on-clause-bytes
returns-in_err-write_on-clause-bytes g c =
    let line = g.T.EventWriter.line c.args.event_writer.now in
    let ledger = ledger_seen g.F.Family.bytes_of c.args.ledger.now in
    let ms = c.args.router.now.machines.moment in
    stopped _ _ c.from_residual.result _ c.from_residual.ensures.0
    (item_begun (held_piece line ledger ms) (held_text line ledger ms) (held_cons line ledger ms) _ _ _ _
    c.loop-reported.invariant.0 _ _ _ c.in-Some.ensures.steps
    (subst (λ (text : List ℕ). AppendsFront (g.T.EventWriter.contents c.loop-reported.device)
    (g.T.EventWriter.contents c.write_on.new.device) text)
    (held_is line ledger ms c.now-ms.result (held_seen g.F.Family.bytes_of c.held_machine.result)
    (record_of_seen g.F.Family.bytes_of c.in-Some.reported) c.now-ms.ensures c.held_machine.ensures)
    c.in_err-write_on.ensures.bytes))

pub loop-reported-preserved : goal.loop-reported-preserved
loop-reported-preserved g c =
    let line = g.T.EventWriter.line c.args.event_writer.now in
    let ledger = ledger_seen g.F.Family.bytes_of c.args.ledger.now in
    let ms = c.args.router.now.machines.moment in (
      item_written (held_piece line ledger ms) (held_text line ledger ms) (held_cons line ledger ms) _ _ _ _
          c.loop-reported.invariant.0 _ _ _ c.in-Some.ensures.steps
          (subst (λ (text : List ℕ). Appends (g.T.EventWriter.contents c.loop-reported.device)
          (g.T.EventWriter.contents c.write_on.new.device) text)
          (held_is line ledger ms c.now-ms.result (held_seen g.F.Family.bytes_of c.held_machine.result)
          (record_of_seen g.F.Family.bytes_of c.in-Some.reported) c.now-ms.ensures c.held_machine.ensures)
          c.in_ok-write_on.ensures.bytes),
      c.in_ok-write_on.ensures.count ∙ c.loop-reported.invariant.1,
    )

pub returns-clause-bytes : goal.returns-clause-bytes
returns-clause-bytes g c =
    let line = g.T.EventWriter.line c.args.event_writer.now in
    let ledger = ledger_seen g.F.Family.bytes_of c.args.ledger.now in
    let ms = c.args.router.now.machines.moment in
    none_left (held_piece line ledger ms) (held_text line ledger ms) (held_cons line ledger ms) _ _ _ _
    c.loop-reported.invariant.0 refl c.in-None.ensures.steps.0
