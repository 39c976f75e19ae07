use Rattle.pim_mirror.proofs.Words.{◌∙◌, ◌+◌, List, ◌∷◌, drop, map, sym, subst, ap, neighbour_seen, OtherNeighbour, PassesHellos}
use Rattle.pim_mirror.proofs.Heard.{left_is, none_left}
use Rattle.pim_mirror.proofs.Hellos.{more_met, no_hellos}
use Rattle.pim_mirror.proofs.meeting.meet_others.Goals as goal

pub loop-other-preserved : goal.loop-other-preserved
loop-other-preserved g c =
    let others = c.args.others.now in
    let i = c.loop-other.other-index in (
      λ after more. c.loop-other.invariant.0 after
          (more_met c.course_goes_on.ensures c.every_list_has_a_course.ensures g.F.Family.family (neighbour_seen g.F.Family.bytes_of) (drop i others)
          (drop (i + 1) others) c.other-item.result c.loop-other.router c.meet.new.router after (left_is others i c.other-item.result c.loop-other-test.true ∙ ap (λ (other : OtherNeighbour _). other ∷ drop (i + 1) others) (sym c.other-item.is))
          c.in_ok-meet.ensures.passes more),
      c.meet.ensures.ports ∙ c.loop-other.invariant.1,
    )

pub returns-clause-passes : goal.returns-clause-passes
returns-clause-passes g c =
    c.loop-other.invariant.0 c.loop-other.router
    (subst (λ (left : List _). PassesHellos g.F.Family.family (map (neighbour_seen g.F.Family.bytes_of) left) c.loop-other.router c.loop-other.router)
    (sym (none_left c.args.others.now c.loop-other.other-index c.loop-other-test.false)) (no_hellos g.F.Family.family c.loop-other.router))
