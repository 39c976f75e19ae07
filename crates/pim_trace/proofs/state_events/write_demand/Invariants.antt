use Rattle.pim_trace.proofs.Words.{◌≡◌}
use Rattle.pim_trace.proofs.Writing.{IsWriting}
use Rattle.pim_trace.proofs.StateTexts.{groups_text}
use Rattle.pim_trace.proofs.state_events.write_demand.Given as goal

-- the groups that are left are still to be written
abbrev pub invariant-loop-group : goal.invariant-loop-group
invariant-loop-group g l =
    let text = groups_text (g.T.EventWriter.line l.event_writer) l.at.ms l.at.epoch g.F.Family.family l.routes in
    IsWriting (g.T.EventWriter.contents l.fn.device) (g.T.EventWriter.contents l.device) (text l.group-iterator) (text l.form)
    × (g.T.EventWriter.failures l.device ≡ g.T.EventWriter.failures l.fn.device)
