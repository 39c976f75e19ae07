use Rattle.pim_trace.proofs.Words.{[], ◌∷◌, subst, Downstream, ending, ledger_seen}
use Rattle.pim_form.specs.NormalForm.{IsFormOf}
use Rattle.pim_form.specs.Wants.{wants}
use Rattle.pim_trace.specs.StateEvents.{state_events}
use Rattle.pim_trace.proofs.Pieces.{happens_then, told_begun, begun_longer, one_told, one_begun}
use Rattle.pim_trace.proofs.trace.write_state_and_end.Goals as goal

-- the device failed at the state
pub returns-in_default-write_state-clause-reported : goal.returns-in_default-write_state-clause-reported
returns-in_default-write_state-clause-reported g c =
    let ledger = ledger_seen g.F.Family.bytes_of c.args.ledger.now in
    let state = c.args.router.now in
    record {
      form = c.in-Ok.form;
      demand = subst (λ (m : Downstream). IsFormOf g.F.Family.family (wants m) c.in-Ok.form) c.ports.ensures c.in-Ok.ensures;
      written = begun_longer (g.T.EventWriter.line c.args.event_writer.now) (g.T.EventWriter.contents c.args.device.now)
          (g.T.EventWriter.contents c.write_state.new.device)
          (state_events g.F.Family.family ledger state c.in-Ok.form) (ending ledger state ∷ [])
          c.in_default-write_state.ensures.bytes;
    }

-- the device failed at the end
pub returns-in_default-write_end-clause-reported : goal.returns-in_default-write_end-clause-reported
returns-in_default-write_end-clause-reported g c =
    let line = g.T.EventWriter.line c.args.event_writer.now in
    let ledger = ledger_seen g.F.Family.bytes_of c.args.ledger.now in
    let state = c.args.router.now in
    let mid = g.T.EventWriter.contents c.write_state.new.device in
    let new = g.T.EventWriter.contents c.write_end.new.device in
    record {
      form = c.in-Ok.form;
      demand = subst (λ (m : Downstream). IsFormOf g.F.Family.family (wants m) c.in-Ok.form) c.ports.ensures c.in-Ok.ensures;
      written = told_begun line (g.T.EventWriter.contents c.args.device.now) mid new
          (state_events g.F.Family.family ledger state c.in-Ok.form) (ending ledger state ∷ [])
          c.in-Ok-write_state.ensures.bytes (one_begun line mid new (ending ledger state) c.in_default-write_end.ensures.bytes);
    }

pub returns-clause-reported : goal.returns-clause-reported
returns-clause-reported g c =
    let line = g.T.EventWriter.line c.args.event_writer.now in
    let ledger = ledger_seen g.F.Family.bytes_of c.args.ledger.now in
    let state = c.args.router.now in
    let mid = g.T.EventWriter.contents c.write_state.new.device in
    let new = g.T.EventWriter.contents c.write_end.new.device in
    record {
      form = c.in-Ok.form;
      demand = subst (λ (m : Downstream). IsFormOf g.F.Family.family (wants m) c.in-Ok.form) c.ports.ensures c.in-Ok.ensures;
      written = happens_then line (g.T.EventWriter.contents c.args.device.now) mid new
          (state_events g.F.Family.family ledger state c.in-Ok.form) (ending ledger state ∷ [])
          c.in-Ok-write_state.ensures.bytes (one_told line mid new (ending ledger state) c.in-Ok-write_end.ensures.bytes);
    }
