use Rattle.pim_form.proofs.Words.{◌∙◌, ◌<◌, ◌+◌, ◌-◌, sym, ap, subst, arith, [], ◌∷◌, ◌++◌, length, Filled, IsFilling}
use Rattle.pim_form.proofs.PlanCuts.{few_exceptions, first_entries, few_entries, closed_before, less_of_none, less_of_star, groups_before, fewer_sources, closed_within, rest_piece, next_within}
use Rattle.pim_form.proofs.filling.cut.Goals.{then-room-eq0-via-then-room-eq0, then-room-eq0-via-else-room-eq0+then-room-star}
use Rattle.pim_form.proofs.filling.cut.Goals as goal

pub star_entries-star-requires-clause-within : goal.star_entries-star-requires-clause-within
star_entries-star-requires-clause-within g c =
    let next = c.requires.next in
    (next_within g.F.Family.bytes_of g.F.Family.family c.args.budget next.row next.places c.args.place.now next.left c.args.filling.now next.filling).2

pub star_entries-star-requires-clause-exceptions : goal.star_entries-star-requires-clause-exceptions
star_entries-star-requires-clause-exceptions g c =
    let next = c.requires.next in
    few_exceptions g.F.Family.bytes_of g.F.Family.family c.args.budget next.row next.places c.args.place.now next.left c.args.filling.now next.filling c.requires.budget

pub overflow_add-end : goal.overflow_add-end
overflow_add-end g c =
    let next = c.requires.next in
    let less = fewer_sources g.F.Family.bytes_of g.F.Family.family c.args.budget next.row next.places c.args.place.now next.left c.args.filling.now next.filling
    c.fitting-room.result c.star_entries-star.result c.fitting-room.ensures c.star_entries-star.ensures (omega arith) (omega arith) c.requires.long in
    omega (arith, less)

pub push-requires-clause-groups : goal.push-requires-clause-groups
push-requires-clause-groups g c =
    let room = (c.fitting-room.ensures c.fitting-room.result (omega arith)).0 (omega arith) in
    omega (arith, room.1)

pub push-requires-clause-entries : goal.push-requires-clause-entries
push-requires-clause-entries g c =
    let room = (c.fitting-room.ensures c.fitting-room.result (omega arith)).0 (omega arith) in
    let few = few_entries g.F.Family.family c.args.budget (c.args.filling.now.groups + 1) (c.args.filling.now.entries + c.fitting-room.result) room c.requires.budget in
    omega (arith, few, c.star_entries-star.ensures)

pub push-requires-clause-exceptions : goal.push-requires-clause-exceptions
push-requires-clause-exceptions g c =
    let next = c.requires.next in
    (next_within g.F.Family.bytes_of g.F.Family.family c.args.budget next.row next.places c.args.place.now next.left c.args.filling.now next.filling).2

pub returns-clause-cut : goal.returns-clause-cut
returns-clause-cut g c = λ row places left filling.
    let bytes_of = g.F.Family.bytes_of in
    let family = g.F.Family.family in
    let budget = c.args.budget in
    let closed = closed_within bytes_of family budget row places c.args.place.now left c.args.filling.now filling
    c.fitting-room.result c.star_entries-star.result c.fitting-room.ensures c.star_entries-star.ensures (omega arith) (omega arith) c.requires.long in
    let is = c.in_ok-close-2.ensures {u = tt} ∙ ap (λ (f : Filled g.row.F-Addr.Denot). record { pieces = f.pieces; ends = f.ends ++ length f.pieces ∷ []; groups = 0; entries = 0 }) (c.in_ok-push.ensures {u = tt}) in
    subst (IsFilling bytes_of family budget row places (rest_piece (c.args.place.now.sources_start + (c.fitting-room.result - c.star_entries-star.result)) c.args.place.now ∷ left)) (sym is) closed

pub returns-then-room-eq0-clause-cut : goal.returns-then-room-eq0-clause-cut
returns-then-room-eq0-clause-cut g c = λ row places left filling.
    let bytes_of = g.F.Family.bytes_of in
    let family = g.F.Family.family in
    let budget = c.args.budget in
    let less : c.fitting-room.result < first_entries c.args.place.now = elim c.then-room-eq0.branch [
      | then-room-eq0-via-then-room-eq0 w ↦ less_of_none bytes_of family budget row places c.args.place.now left c.args.filling.now filling
          c.fitting-room.result c.star_entries-star.result c.fitting-room.ensures c.star_entries-star.ensures w.if-room-eq0.true
      | then-room-eq0-via-else-room-eq0+then-room-star w ↦ less_of_star bytes_of family budget row places c.args.place.now left c.args.filling.now filling
          c.fitting-room.result c.star_entries-star.result c.fitting-room.ensures c.star_entries-star.ensures w.if-room-star.true
    ] in
    subst (IsFilling bytes_of family budget row places (c.args.place.now ∷ left)) (sym (c.in_ok-close.ensures {u = tt}))
    (closed_before bytes_of family budget row places c.args.place.now left c.args.filling.now filling
    c.fitting-room.result c.star_entries-star.result c.fitting-room.ensures c.star_entries-star.ensures less)

pub returns-then-room-eq0-clause-falls : goal.returns-then-room-eq0-clause-falls
returns-then-room-eq0-clause-falls g c =
    let next = c.requires.next in
    let less : c.fitting-room.result < first_entries c.args.place.now = elim c.then-room-eq0.branch [
      | then-room-eq0-via-then-room-eq0 w ↦ less_of_none g.F.Family.bytes_of g.F.Family.family c.args.budget next.row next.places c.args.place.now next.left c.args.filling.now next.filling
          c.fitting-room.result c.star_entries-star.result c.fitting-room.ensures c.star_entries-star.ensures w.if-room-eq0.true
      | then-room-eq0-via-else-room-eq0+then-room-star w ↦ less_of_star g.F.Family.bytes_of g.F.Family.family c.args.budget next.row next.places c.args.place.now next.left c.args.filling.now next.filling
          c.fitting-room.result c.star_entries-star.result c.fitting-room.ensures c.star_entries-star.ensures w.if-room-star.true
    ] in
    let some = groups_before g.F.Family.bytes_of g.F.Family.family c.args.budget next.row next.places c.args.place.now next.left c.args.filling.now next.filling
    c.fitting-room.result c.star_entries-star.result c.fitting-room.ensures c.star_entries-star.ensures less in
    omega (arith, some, ap (λ (f : Filled g.row.F-Addr.Denot). f.groups) (c.in_ok-close.ensures {u = tt}))
