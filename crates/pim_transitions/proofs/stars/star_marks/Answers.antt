use Rattle.pim_transitions.proofs.Words.{flat_map, ap, set_events, events_of, rp_of}
use Rattle.pim_transitions.proofs.StarSets.{marked_more, all_marked}
use Rattle.pim_transitions.proofs.stars.star_marks.Goals as goal

pub push_set-requires : goal.push_set-requires
push_set-requires g c = record { walked = c.loop-set.invariant.groups }

pub loop-set-preserved : goal.loop-set-preserved
loop-set-preserved g c =
    marked_more c.args.port c.args.ports.now.records _ _ _ _ _ _ _ (rw c.in-Some.ensures.steps at c.loop-set.invariant)
    c.in_ok-push_set.ensures.stars c.in_ok-push_set.ensures.walked

pub returns : goal.returns
returns g c =
    let known = rp_of g.F.Family.family c.args.routes.now in
    all_marked c.args.port c.args.ports.now.records (events_of known c.args.message.now) _ _ _
    (ap (flat_map (set_events known)) c.in-None.ensures.steps.0) c.loop-set.invariant
