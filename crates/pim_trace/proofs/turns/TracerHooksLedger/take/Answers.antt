use Rattle.pim_trace.proofs.Words.{◌≡◌, ◌∙◌, ap, turn_seen, ledger_seen, event_seen, frame_of, frame_after, opened, counting}
use Rattle.pim_trace.proofs.TakenTurn.{stopped_on_the_way, turn_over}
use Rattle.pim_trace.proofs.turns.TracerHooksLedger.take.Goals as goal

pub returns-in_default-clause-taken : goal.returns-in_default-clause-taken
returns-in_default-clause-taken g c =
    let before = ledger_seen g.F.Family.bytes_of c.args.ledger.now in
    let opens : ledger_seen g.F.Family.bytes_of c.open.new.self ≡ counting (turn_seen c.args.bytes.now c.args.turn.now) before =
    c.open.ensures
    ∙ (ap (λ n. opened c.args.turn.now.capture n c.time.result before) (c.frame_after-frame.ensures c.args.bytes.now
    ∙ ap (frame_after (event_seen c.args.bytes.now c.args.turn.now.event)) c.frame.ensures)
    ∙ ap (λ t. opened c.args.turn.now.capture (frame_after (event_seen c.args.bytes.now c.args.turn.now.event) (frame_of c.args.turn.now.capture before)) t before) (c.time.ensures c.args.bytes.now)) in
    stopped_on_the_way (g.T.EventWriter.line c.args.self.now.event_writer.now) g.F.Family.family (turn_seen c.args.bytes.now c.args.turn.now) before (ledger_seen g.F.Family.bytes_of c.open.new.self) c.args.router.now
    opens c.transitions_are_there.ensures
    (g.T.EventWriter.contents c.args.device.now) (g.T.EventWriter.contents c.pass_time.new.device) c.in_default.ensures.reported

pub returns-clause-taken : goal.returns-clause-taken
returns-clause-taken g c =
    let before = ledger_seen g.F.Family.bytes_of c.args.ledger.now in
    let opens : ledger_seen g.F.Family.bytes_of c.open.new.self ≡ counting (turn_seen c.args.bytes.now c.args.turn.now) before =
    c.open.ensures
    ∙ (ap (λ n. opened c.args.turn.now.capture n c.time.result before) (c.frame_after-frame.ensures c.args.bytes.now
    ∙ ap (frame_after (event_seen c.args.bytes.now c.args.turn.now.event)) c.frame.ensures)
    ∙ ap (λ t. opened c.args.turn.now.capture (frame_after (event_seen c.args.bytes.now c.args.turn.now.event) (frame_of c.args.turn.now.capture before)) t before) (c.time.ensures c.args.bytes.now)) in
    turn_over (g.T.EventWriter.line c.args.self.now.event_writer.now) g.F.Family.family (turn_seen c.args.bytes.now c.args.turn.now) before (ledger_seen g.F.Family.bytes_of c.open.new.self) c.args.router.now
    opens
    (ledger_seen g.F.Family.bytes_of c.pass_time.new.ledger) c.pass_time.new.router (g.T.EventWriter.contents c.args.device.now) (g.T.EventWriter.contents c.pass_time.new.device) c.in-Ok.ensures.reported
    (ledger_seen g.F.Family.bytes_of c.take_record.new.ledger) c.take_record.new.router (g.T.EventWriter.contents c.take_record.new.device) c.take_record.result c.take_record.ensures.reported
