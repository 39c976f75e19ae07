use Rattle.pim_transitions.proofs.Words.{sym, subst, events_of, rp_of, IsAffected}
use Rattle.pim_transitions.proofs.Listing.{marks_named}
use Rattle.pim_transitions.proofs.affected.Affected.of.Goals as goal

pub returns : goal.returns
returns g c =
    let events = events_of (rp_of g.F.Family.family c.args.routes.now) c.args.message.now in
    subst (IsAffected c.args.port events c.args.ports.now.records) (sym (rw c.deref.ensures.value at c.in_ok-candidates.ensures))
    (marks_named c.args.port events c.args.ports.now.records _ _ _ c.in_ok-marks.ensures c.in_ok-push_events.ensures c.put_in_key_order.ensures.stable c.in_ok-put_in_key_order.ensures.rise)
