use Rattle.pim_emit.proofs.Words.{◌∙◌, option_map, sym, ap, subst, arith, IsGroupAddress, IsNormalGroup}
use Rattle.pim_emit.proofs.Above.{next_group, next_group_holds}
use Rattle.pim_emit.proofs.TooBigSteps.{none_too_big, goes_on_bare, goes_on, ends_here, room_alone, fewer_groups, none_above}
use Rattle.pim_emit.proofs.message.too_big_above.Goals.{else-has_star-via-then-has_star+else-room-exception_count, else-has_star-via-else-has_star}
use Rattle.pim_emit.proofs.message.too_big_above.Goals as goal

pub returns-then-most_exceptions-room : goal.returns-then-most_exceptions-room
returns-then-most_exceptions-room g c =
    let family = g.F.Family.family in
    let is_room = room_alone family c.args.budget c.room-room.result c.empty_draft.result.groups c.empty_draft.result.end
    (λ i. (c.empty_draft.ensures i).groups) (λ i. (c.empty_draft.ensures i).end) c.room-room.ensures in
    sym (none_above family c.args.budget c.args.demand.now.form c.is_normal.ensures.normal c.groups_are_counted.ensures c.room-room.result is_room
    (λ group is_group. omega (arith, c.most_exceptions.ensures group is_group, c.if-most_exceptions-room.true))
    (option_map g.F.Family.bytes_of c.args.bound))

pub has_star-requires : goal.has_star-requires
has_star-requires g c =
    let form = c.args.demand.now.form in
    let bound = option_map g.F.Family.bytes_of c.loop-group.passed in
    let group = g.F.Family.bytes_of c.in-Some.group in
    let normal = c.is_normal.ensures.normal in
    let found = sym c.next_group.ensures ∙ ap (option_map g.F.Family.bytes_of) c.in-Some.is in
    subst (IsGroupAddress g.F.Family.family) (next_group bound form group normal.ascending found).named
    (next_group_holds (IsNormalGroup g.F.Family.family) bound form group normal.ascending normal.groups found).group

pub exception_count-requires-clause-group : goal.exception_count-requires-clause-group
exception_count-requires-clause-group g c =
    let form = c.args.demand.now.form in
    let bound = option_map g.F.Family.bytes_of c.loop-group.passed in
    let group = g.F.Family.bytes_of c.in-Some.group in
    let normal = c.is_normal.ensures.normal in
    let found = sym c.next_group.ensures ∙ ap (option_map g.F.Family.bytes_of) c.in-Some.is in
    subst (IsGroupAddress g.F.Family.family) (next_group bound form group normal.ascending found).named
    (next_group_holds (IsNormalGroup g.F.Family.family) bound form group normal.ascending normal.groups found).group

pub returns-then-room-exception_count : goal.returns-then-room-exception_count
returns-then-room-exception_count g c =
    let family = g.F.Family.family in
    let form = c.args.demand.now.form in
    let bound = option_map g.F.Family.bytes_of c.loop-group.passed in
    let group = g.F.Family.bytes_of c.in-Some.group in
    let found = sym c.next_group.ensures ∙ ap (option_map g.F.Family.bytes_of) c.in-Some.is in
    let is_room = room_alone family c.args.budget c.room-room.result c.empty_draft.result.groups c.empty_draft.result.end
    (λ i. (c.empty_draft.ensures i).groups) (λ i. (c.empty_draft.ensures i).end) c.room-room.ensures in
    sym (ends_here family c.args.budget bound form c.is_normal.ensures.normal group found c.groups_are_counted.ensures c.room-room.result is_room
    (sym c.has_star.ensures ∙ c.if-has_star.true) (omega (arith, c.if-room-exception_count.true, c.exception_count.ensures))) ∙ c.loop-group.invariant

pub loop-group-smaller : goal.loop-group-smaller
loop-group-smaller g c =
    fewer_groups (option_map g.F.Family.bytes_of c.loop-group.passed) c.args.demand.now.form c.is_normal.ensures.normal.ascending (g.F.Family.bytes_of c.in-Some.group)
    (sym c.next_group.ensures ∙ ap (option_map g.F.Family.bytes_of) c.in-Some.is)

pub loop-group-preserved : goal.loop-group-preserved
loop-group-preserved g c =
    let family = g.F.Family.family in
    let form = c.args.demand.now.form in
    let bound = option_map g.F.Family.bytes_of c.loop-group.passed in
    let group = g.F.Family.bytes_of c.in-Some.group in
    let normal = c.is_normal.ensures.normal in
    let found = sym c.next_group.ensures ∙ ap (option_map g.F.Family.bytes_of) c.in-Some.is in
    let is_room = room_alone family c.args.budget c.room-room.result c.empty_draft.result.groups c.empty_draft.result.end
    (λ i. (c.empty_draft.ensures i).groups) (λ i. (c.empty_draft.ensures i).end) c.room-room.ensures in
    sym (elim c.else-has_star.branch [
      | else-has_star-via-then-has_star+else-room-exception_count w ↦
          goes_on family c.args.budget bound form normal group found c.groups_are_counted.ensures c.room-room.result is_room
          (sym c.has_star.ensures ∙ w.if-has_star.true) (omega (arith, w.if-room-exception_count.false, w.exception_count.ensures))
      | else-has_star-via-else-has_star w ↦
          goes_on_bare family c.args.budget bound form normal group found c.groups_are_counted.ensures c.room-room.result is_room (sym c.has_star.ensures ∙ w.if-has_star.false)
    ]) ∙ c.loop-group.invariant

pub returns : goal.returns
returns g c =
    sym (none_too_big g.F.Family.family c.args.budget (option_map g.F.Family.bytes_of c.loop-group.passed) c.args.demand.now.form c.is_normal.ensures.normal
    (sym c.next_group.ensures ∙ ap (option_map g.F.Family.bytes_of) c.in_default.is)) ∙ c.loop-group.invariant
