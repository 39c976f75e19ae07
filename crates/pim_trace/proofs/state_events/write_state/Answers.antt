use Rattle.pim_trace.proofs.Words.{List, ℕ, sym, subst, AppendsAll, flat_map, ledger_seen}
use Rattle.std.proofs.lemmas.List.Concat.{flat_map-append}
use Rattle.pim_trace.specs.StateEvents.{held_events, wanted_events, demand_entries}
use Rattle.pim_trace.specs.WrittenEvents.{wanted_text}
use Rattle.pim_trace.proofs.Written.{front-longer}
use Rattle.pim_trace.proofs.Writing.{all-more, stopped}
use Rattle.pim_trace.proofs.StateTexts.{state_is}
use Rattle.pim_trace.proofs.state_events.write_state.Goals as goal

pub returns-in_err-write_held-clause-bytes : goal.returns-in_err-write_held-clause-bytes
returns-in_err-write_held-clause-bytes g c =
    let line = g.T.EventWriter.line c.args.event_writer.now in
    let ledger = ledger_seen g.F.Family.bytes_of c.args.ledger.now in
    let held = held_events ledger c.args.router.now in
    let wanted = wanted_events g.F.Family.family ledger c.args.router.now c.args.form.now in
    subst (λ (text : List ℕ). AppendsAll (g.T.EventWriter.contents c.args.device.now)
    (g.T.EventWriter.contents c.write_held.new.device) c.from_residual.result text)
    (sym (flat_map-append line held wanted))
    (stopped _ _ c.from_residual.result _ c.from_residual.ensures.0
    (front-longer _ _ (flat_map line held) (flat_map line wanted) c.in_err-write_held.ensures.bytes))

pub returns-clause-bytes : goal.returns-clause-bytes
returns-clause-bytes g c =
    let line = g.T.EventWriter.line c.args.event_writer.now in
    let ledger = ledger_seen g.F.Family.bytes_of c.args.ledger.now in
    let state = c.args.router.now in
    let family = g.F.Family.family in
    subst (λ (text : List ℕ). AppendsAll (g.T.EventWriter.contents c.args.device.now)
    (g.T.EventWriter.contents c.write_demand.new.device) c.write_demand.result text)
    (state_is line family ledger state c.args.form.now c.now-ms.result c.epoch-epoch.result c.routes.result.now
    c.now-ms.ensures c.epoch-epoch.ensures c.routes.ensures)
    (all-more c.write_demand.result _ (g.T.EventWriter.contents c.write_held.new.device) _
    (flat_map line (held_events ledger state))
    (wanted_text line c.now-ms.result c.epoch-epoch.result (demand_entries family c.routes.result.now c.args.form.now))
    c.in_ok-write_held.ensures.bytes c.write_demand.ensures.bytes)
