use Rattle.pim_trace.proofs.Words.{List, ℕ, length, refl, sym, ap, subst, ◌∙◌, Appends, AppendsFront, Downstream, neighbours_on}
use Rattle.pim_trace.proofs.Words.{Cause, cause_seen, Transition, transitions_to, as_cause, ledger_seen, with_changes, packet_in}
use Rattle.pim_trace.proofs.Loops.{AreLeft, all_left, change_told, change_begun, changes_told, all_kept, same_text}
use Rattle.pim_trace.proofs.Writing.{start_writing, stopped}
use Rattle.pim_trace.proofs.changing.write_changes.Goals as goal

pub loop-change-init : goal.loop-change-init
loop-change-init g c =
    let bytes_of = g.F.Family.bytes_of in
    let line = g.T.EventWriter.line c.args.event_writer.now in
    let by = c.changer_of-by.result in
    let old = g.T.EventWriter.contents c.args.device.now in
    let start = ledger_seen bytes_of c.args.ledger.now in
    let whole = transitions_to c.args.router.now.machines.records c.args.affected.now in (
      subst (λ (left : List (Transition (List ℕ))). AreLeft line (cause_seen bytes_of by.packet) by.port by.neighbours start whole start left old old)
          (ap (λ (d : Downstream). transitions_to d.records c.args.affected.now) (sym c.ports.ensures) ∙ sym c.changes-change-items.ensures ∙ sym c.into_iter-change-iterator.ensures.into_iter_gives)
          (all_left line (cause_seen bytes_of by.packet) by.port by.neighbours start whole old (start_writing old _)),
      refl,
      refl,
      refl,
    )

pub loop-change-preserved : goal.loop-change-preserved
loop-change-preserved g c =
    let bytes_of = g.F.Family.bytes_of in
    let line = g.T.EventWriter.line c.args.event_writer.now in
    let by = c.changer_of-by.result in (
      change_told line (cause_seen bytes_of by.packet) by.port by.neighbours _ _ _ _ _ _ _ _ _ _ c.loop-change.invariant.0 c.in-Some.ensures.steps c.in_ok-write_change.ensures.ledger c.in_ok-write_change.ensures.bytes,
      c.in_ok-write_change.ensures.count ∙ c.loop-change.invariant.1,
      c.in_ok-write_change.ensures.frames ∙ c.loop-change.invariant.2,
      c.in_ok-write_change.ensures.own ∙ c.loop-change.invariant.3,
    )

pub returns-in_err-write_change-clause-bytes : goal.returns-in_err-write_change-clause-bytes
returns-in_err-write_change-clause-bytes g c =
    let bytes_of = g.F.Family.bytes_of in
    let line = g.T.EventWriter.line c.args.event_writer.now in
    let by = c.changer_of-by.result in
    let old = g.T.EventWriter.contents c.args.device.now in
    let new = g.T.EventWriter.contents c.write_change.new.device in
    stopped _ _ c.from_residual.result _ c.from_residual.ensures.0
    (subst (λ l. AppendsFront old new l)
    (same_text line (cause_seen bytes_of by.packet) (as_cause c.args.packet.now.frame (packet_in bytes_of c.args.packet.now) c.args.router.now) by.port c.args.packet.now.port by.neighbours (length (neighbours_on c.args.packet.now.port c.args.router.now).entries)
    (ledger_seen bytes_of c.args.ledger.now) (transitions_to c.args.router.now.machines.records c.args.affected.now) c.changer_of-by.ensures.packet c.changer_of-by.ensures.port c.changer_of-by.ensures.neighbours)
    (change_begun line (cause_seen bytes_of by.packet) by.port by.neighbours _ _ _ _ _ _ _ _ _ c.loop-change.invariant.0 c.in-Some.ensures.steps c.in_err-write_change.ensures.bytes))

pub returns-clause-bytes : goal.returns-clause-bytes
returns-clause-bytes g c =
    let bytes_of = g.F.Family.bytes_of in
    let line = g.T.EventWriter.line c.args.event_writer.now in
    let by = c.changer_of-by.result in
    let old = g.T.EventWriter.contents c.args.device.now in
    subst (λ l. Appends old (g.T.EventWriter.contents c.loop-change.device) l)
    (same_text line (cause_seen bytes_of by.packet) (as_cause c.args.packet.now.frame (packet_in bytes_of c.args.packet.now) c.args.router.now) by.port c.args.packet.now.port by.neighbours (length (neighbours_on c.args.packet.now.port c.args.router.now).entries)
    (ledger_seen bytes_of c.args.ledger.now) (transitions_to c.args.router.now.machines.records c.args.affected.now) c.changer_of-by.ensures.packet c.changer_of-by.ensures.port c.changer_of-by.ensures.neighbours)
    (changes_told line (cause_seen bytes_of by.packet) by.port by.neighbours _ _ _ _ _ _ c.loop-change.invariant.0 c.in-None.ensures.steps.0)

pub returns-clause-ledger : goal.returns-clause-ledger
returns-clause-ledger g c =
    let bytes_of = g.F.Family.bytes_of in
    let line = g.T.EventWriter.line c.args.event_writer.now in
    let by = c.changer_of-by.result in
    let whole = transitions_to c.args.router.now.machines.records c.args.affected.now in
    all_kept line (cause_seen bytes_of by.packet) by.port by.neighbours (ledger_seen bytes_of c.args.ledger.now) whole _ _ _ _ c.loop-change.invariant.0 c.in-None.ensures.steps.0
    ∙ ap (λ (p : Cause (List ℕ)). with_changes p whole (ledger_seen bytes_of c.args.ledger.now)) c.changer_of-by.ensures.packet
