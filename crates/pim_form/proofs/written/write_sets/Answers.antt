use Rattle.pim_form.proofs.Words.{◌≡◌, ◌∙◌, List, ◌∷◌, map, take, sym, subst, AllByRecursion, IsMessageSet, GroupForm}
use Rattle.pim_form.proofs.Words.{HaveRps, written_set, rp_of}
use Rattle.pim_form.proofs.Sets.{room_of_first, room_of_others, one_more_set, no_more_set}
use Rattle.pim_form.proofs.written.write_sets.Goals as goal

pub write_set_at-at-requires-clause-room : goal.write_set_at-at-requires-clause-room
write_set_at-at-requires-clause-room g c =
    room_of_first g.F.Family.family (rp_of g.F.Family.family c.args.routes.now) c.loop-group.group-iterator c.next.new.self c.in-Some.group c.loop-group.at _ c.in-Some.ensures.steps c.loop-group.invariant.room

pub loop-group-preserved : goal.loop-group-preserved
loop-group-preserved g c =
    let family = g.F.Family.family in
    let rps = rp_of g.F.Family.family c.args.routes.now in
    let steps : c.loop-group.group-iterator ≡ c.in-Some.group ∷ c.next.new.self = c.in-Some.ensures.steps in
    record {
      rps = (subst (HaveRps family rps) steps c.loop-group.invariant.rps).1;
      sets = (subst (λ (part : List GroupForm). AllByRecursion (IsMessageSet family) (map (written_set rps) part)) steps c.loop-group.invariant.sets).1;
      room = room_of_others family rps c.loop-group.group-iterator c.next.new.self c.in-Some.group c.loop-group.at c.write_set_at-at.result _ steps
          (c.loop-group.invariant.room ∙ sym c.write_set_at-at.ensures.length) c.write_set_at-at.ensures.end;
      long = c.write_set_at-at.ensures.length ∙ c.loop-group.invariant.long;
      written = one_more_set family rps c.loop-group.group-iterator c.next.new.self c.in-Some.group (take c.loop-group.at c.loop-group.bytes) _ _ steps c.loop-group.invariant.written
          c.write_set_at-at.ensures.front;
    }

pub returns : goal.returns
returns g c =
    no_more_set g.F.Family.family (rp_of g.F.Family.family c.args.routes.now) c.loop-group.group-iterator c.loop-group.at c.loop-group.bytes _ c.in-None.ensures.steps.0
    c.loop-group.invariant.room c.loop-group.invariant.written
