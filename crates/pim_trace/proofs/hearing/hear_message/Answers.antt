use Rattle.pim_trace.proofs.Words.{List, ℕ, Some, Ok, refl, Record, received, transitions_to, HearsPacket, ledger_seen, packet_in}
use Rattle.pim_trace.proofs.Hearings.{no_hello, message_stopped, verdict_begun, begun_err, other_told, was_applied, not_applied, applied_told}
use Rattle.pim_trace.proofs.hearing.hear_message.Goals as goal

pub returns-in_default-clause-reported : goal.returns-in_default-clause-reported
returns-in_default-clause-reported g c =
    let bytes_of = g.F.Family.bytes_of in
    message_stopped g.F.Family.family c.args.packet.now.frame (packet_in bytes_of c.args.packet.now) (ledger_seen bytes_of c.args.ledger.now) c.args.router.now (g.T.EventWriter.line c.args.event_writer.now)
    (Some c.args.message) (no_hello g.F.Family.family (packet_in bytes_of c.args.packet.now) c.args.message c.requires.read) c.transitions_are_there.ensures (g.T.EventWriter.contents c.args.device.now)

pub returns-in_err-applied-clause-reported : goal.returns-in_err-applied-clause-reported
returns-in_err-applied-clause-reported g c =
    let bytes_of = g.F.Family.bytes_of in
    let packet = packet_in bytes_of c.args.packet.now in
    let ledger = ledger_seen bytes_of c.args.ledger.now in
    let line = g.T.EventWriter.line c.args.event_writer.now in
    begun_err line (HearsPacket g.F.Family.family c.args.packet.now.frame packet ledger c.args.router.now) c.from_residual.result ledger c.judge.new.router
    (g.T.EventWriter.contents c.args.device.now) (g.T.EventWriter.contents c.judge.new.device) c.from_residual.ensures.0
    (verdict_begun g.F.Family.family c.args.packet.now.frame packet ledger c.args.router.now line
    (Some c.args.message) (no_hello g.F.Family.family (packet_in bytes_of c.args.packet.now) c.args.message c.requires.read) c.transitions_are_there.ensures (g.T.EventWriter.contents c.args.device.now) (g.T.EventWriter.contents c.judge.new.device) c.in_err-applied.ensures.bytes)

pub returns-then-not-applied-clause-reported : goal.returns-then-not-applied-clause-reported
returns-then-not-applied-clause-reported g c =
    let bytes_of = g.F.Family.bytes_of in
    let packet = packet_in bytes_of c.args.packet.now in
    other_told g.F.Family.family c.args.packet.now.frame packet (ledger_seen bytes_of c.args.ledger.now) c.args.router.now (g.T.EventWriter.line c.args.event_writer.now)
    (Some c.args.message) (no_hello g.F.Family.family (packet_in bytes_of c.args.packet.now) c.args.message c.requires.read)
    (not_applied (received g.F.Family.family packet c.args.router.now).0 c.in_ok-applied.applied c.in_ok-applied.ensures.applied c.if-not-applied.true)
    (Ok tt) c.judge.new.router (g.T.EventWriter.contents c.args.device.now) (g.T.EventWriter.contents c.judge.new.device) c.in_ok-applied.ensures.router c.in_ok-applied.ensures.bytes

pub returns-clause-reported : goal.returns-clause-reported
returns-clause-reported g c =
    let bytes_of = g.F.Family.bytes_of in
    let packet = packet_in bytes_of c.args.packet.now in
    let state = c.args.router.now in
    let m = c.args.message in
    applied_told g.F.Family.family c.args.packet.now.frame packet (ledger_seen bytes_of c.args.ledger.now) state
    (Some m) (no_hello g.F.Family.family packet m c.requires.read) m refl (was_applied (received g.F.Family.family packet state).0 c.in_ok-applied.applied c.in_ok-applied.ensures.applied c.if-not-applied.false)
    (λ (records : List (Record (List ℕ))). transitions_to records c.in-Ok.affected) c.in-Ok.ensures c.sets-sets.result c.sets-sets.ensures
    (g.T.EventWriter.line c.args.event_writer.now) c.judge.new.router c.in_ok-applied.ensures.router
    c.write_effects.result (ledger_seen bytes_of c.write_effects.new.ledger) (g.T.EventWriter.contents c.args.device.now) (g.T.EventWriter.contents c.judge.new.device) (g.T.EventWriter.contents c.write_effects.new.device)
    c.in_ok-applied.ensures.bytes c.write_effects.ensures.bytes c.write_effects.ensures.ledger
