use Rattle.pim_trace.proofs.Words.{length, sym, subst, AppendsFront, AppendsAll, rp_of, neighbours_on, transitions_to}
use Rattle.pim_trace.proofs.Words.{all_ignored, changes_of, as_cause, ledger_seen, packet_in, text_on}
use Rattle.pim_trace.proofs.Written.{front-longer}
use Rattle.pim_trace.proofs.Writing.{all-more, text-append}
use Rattle.pim_trace.proofs.hearing.write_effects.Goals as goal

pub returns-in_default-clause-bytes : goal.returns-in_default-clause-bytes
returns-in_default-clause-bytes g c =
    let line = g.T.EventWriter.line c.args.event_writer.now in
    let state = c.args.router.now in
    let ledger = ledger_seen g.F.Family.bytes_of c.args.ledger.now in
    let packet = packet_in g.F.Family.bytes_of c.args.packet.now in
    let first = all_ignored c.args.packet.now.frame packet.source (rp_of g.F.Family.family state.routes) c.args.effects.sets in
    let more = changes_of ledger (as_cause c.args.packet.now.frame packet state) (length (neighbours_on packet.port state).entries) (transitions_to state.machines.records c.args.effects.affected) in
    let old = g.T.EventWriter.contents c.args.device.now in
    let new = g.T.EventWriter.contents c.write_ignored.new.device in
    subst (λ l. AppendsFront old new l) (sym (text-append line ledger state.machines.moment packet.port first more))
    (front-longer old new (text_on line ledger state.machines.moment packet.port first) (text_on line ledger state.machines.moment packet.port more) c.in_default.ensures.bytes)

pub returns-clause-bytes : goal.returns-clause-bytes
returns-clause-bytes g c =
    let line = g.T.EventWriter.line c.args.event_writer.now in
    let state = c.args.router.now in
    let ledger = ledger_seen g.F.Family.bytes_of c.args.ledger.now in
    let packet = packet_in g.F.Family.bytes_of c.args.packet.now in
    let first = all_ignored c.args.packet.now.frame packet.source (rp_of g.F.Family.family state.routes) c.args.effects.sets in
    let more = changes_of ledger (as_cause c.args.packet.now.frame packet state) (length (neighbours_on packet.port state).entries) (transitions_to state.machines.records c.args.effects.affected) in
    let old = g.T.EventWriter.contents c.args.device.now in
    let between = g.T.EventWriter.contents c.write_ignored.new.device in
    let new = g.T.EventWriter.contents c.write_changes.new.device in
    subst (λ l. AppendsAll old new c.write_changes.result l) (sym (text-append line ledger state.machines.moment packet.port first more))
    (all-more c.write_changes.result old between new (text_on line ledger state.machines.moment packet.port first) (text_on line ledger state.machines.moment packet.port more) c.in-Ok.ensures.bytes c.write_changes.ensures.bytes)
