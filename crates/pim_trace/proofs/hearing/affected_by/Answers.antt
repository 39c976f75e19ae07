use Rattle.pim_trace.proofs.Words.{subst, RouteTable, rp_of, events_of, start_of, IsSound, Downstream, timing_on}
use Rattle.pim_trace.proofs.Words.{IsAffected, transitions_to, records_after, AreTransitionsOf}
use Rattle.pim_trace.proofs.Hearings.{if_ok}
use Rattle.pim_trace.proofs.hearing.affected_by.Goals as goal

pub returns : goal.returns
returns g c =
    let family = g.F.Family.family in
    let port = c.args.port in
    let state = c.args.router.now in
    let message = c.args.message.now in
    let sound = subst (λ (d : Downstream). IsSound family d) c.ports-ports.ensures c.is_sound.ensures in
    if_ok (λ affected. IsAffected port (events_of (rp_of family c.routes.result.now) message) c.ports-ports.result.now.records affected)
    (λ affected. AreTransitionsOf family port state message (transitions_to (records_after family port state message) affected)) c.of.result
    (λ affected is.
    c.candidates_show_transitions.ensures port (start_of message.holdtime (timing_on port state)) (events_of (rp_of family state.routes) message) state.machines.records affected sound.ascending sound.settled
    (subst (λ (d : Downstream). IsAffected port (events_of (rp_of family state.routes) message) d.records affected) c.ports-ports.ensures
    (subst (λ (t : RouteTable). IsAffected port (events_of (rp_of family t) message) c.ports-ports.result.now.records affected) c.routes.ensures is)))
    c.of.ensures
