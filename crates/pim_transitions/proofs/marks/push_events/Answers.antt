use Rattle.pim_addr.specs.Routes.{rp_of}
use Rattle.pim_transitions.proofs.StarSets.{set_more}
use Rattle.pim_transitions.proofs.marks.push_events.Goals as goal

pub loop-set-preserved : goal.loop-set-preserved
loop-set-preserved g c =
    set_more (rp_of g.F.Family.family c.args.routes.now) c.in-Some.set _ _ _ _ _ _
    c.in-Some.ensures.steps (rw (c.group-group.ensures, c.joined.ensures) at c.in_ok-push_list.ensures) (rw (c.group-group.ensures, c.pruned.ensures) at c.in_ok-push_list-2.ensures) c.loop-set.invariant
