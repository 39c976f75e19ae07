use Rattle.pim_emit.proofs.Words.{◌∙◌, arith, length, ◌+◌, ◌-◌, sym, piece_seen, sources_in, draft_seen, sources_seen}
use Rattle.std.specs.Prelude.{option_map}
use Rattle.pim_emit.proofs.DraftSteps.{small_room, told_at_most, one_at_most, ends_within, to_behind, to_within, some_left, none_left}
use Rattle.pim_emit.proofs.draft.write_piece.Goals as goal

pub overflow_cast-stars : goal.overflow_cast-stars
overflow_cast-stars g c =
    let bytes_of = g.F.Family.bytes_of in
    let small = small_room g.F.Family.family c.args.draft.now.groups c.args.draft.now.end (length c.args.bytes.now)
    c.args.room c.requires.budget c.requires.some c.requires.room in
    let few = told_at_most (piece_seen bytes_of c.args.piece.now) c.args.demand.now.form
    (c.args.room - (c.from-stars.result + c.args.exceptions)) (sources_seen bytes_of c.write_set-reported.result)
    c.write_set-reported.ensures.reported in
    omega (arith, small, few, c.from-stars.ensures, one_at_most c.args.piece.now.starred)

pub overflow_cast-exceptions : goal.overflow_cast-exceptions
overflow_cast-exceptions g c =
    let small = small_room g.F.Family.family c.args.draft.now.groups c.args.draft.now.end (length c.args.bytes.now)
    c.args.room c.requires.budget c.requires.some c.requires.room in
    omega (arith, small, c.requires.star)

pub overflow_add-draft-2 : goal.overflow_add-draft-2
overflow_add-draft-2 g c =
    let bytes_of = g.F.Family.bytes_of in
    let ends = ends_within g.F.Family.family (length c.args.bytes.now) c.args.demand.now c.requires.begun.begun
    (draft_seen bytes_of c.args.draft.now) c.args.bytes.now c.requires.begun.made c.groups_are_counted.ensures
    c.requires.open (piece_seen bytes_of c.args.piece.now) c.requires.piece c.args.room c.requires.room
    c.from-stars.result c.args.exceptions c.from-stars.ensures c.requires.exceptions c.requires.some
    (omega (arith, c.from-stars.ensures, c.requires.star))
    (sources_seen bytes_of c.write_set-reported.result) c.write_set-reported.ensures.reported in
    omega (arith, ends, c.set_length.ensures, c.requires.budget)

pub returns-then-has_more-clause-draft : goal.returns-then-has_more-clause-draft
returns-then-has_more-clause-draft g c begun made =
    let bytes_of = g.F.Family.bytes_of in
    to_within g.F.Family.family (length c.args.bytes.now) c.args.demand.now begun
    (draft_seen bytes_of c.args.draft.now) c.args.bytes.now made c.groups_are_counted.ensures
    c.requires.open (piece_seen bytes_of c.args.piece.now) c.requires.piece c.args.room c.requires.room
    c.from-stars.result c.args.exceptions c.from-stars.ensures c.requires.exceptions c.requires.some
    (omega (arith, c.from-stars.ensures, c.requires.star))
    (sources_seen bytes_of c.write_set-reported.result) c.write_set-reported.ensures.reported
    (λ e. c.star_has_rp.ensures (c.requires.piece.star e)) c.split_at_mut-set.result.0.now
    c.write_set-reported.new.bytes c.split_at_mut-set.ensures.front (omega (arith, made.within)) c.set_length.result
    c.set_length.ensures
    c.write_set-reported.ensures.written
    (some_left (option_map bytes_of c.write_set-reported.result.last)
    (sources_in (bytes_of c.args.piece.now.group) c.args.demand.now.form) (sym c.has_more.ensures ∙ c.if-has_more.true))

pub returns-else-has_more-clause-draft : goal.returns-else-has_more-clause-draft
returns-else-has_more-clause-draft g c begun made =
    let bytes_of = g.F.Family.bytes_of in
    to_behind g.F.Family.family (length c.args.bytes.now) c.args.demand.now begun
    (draft_seen bytes_of c.args.draft.now) c.args.bytes.now made c.groups_are_counted.ensures
    c.requires.open (piece_seen bytes_of c.args.piece.now) c.requires.piece c.args.room c.requires.room
    c.from-stars.result c.args.exceptions c.from-stars.ensures c.requires.exceptions c.requires.some
    (omega (arith, c.from-stars.ensures, c.requires.star))
    (sources_seen bytes_of c.write_set-reported.result) c.write_set-reported.ensures.reported
    (λ e. c.star_has_rp.ensures (c.requires.piece.star e)) c.split_at_mut-set.result.0.now
    c.write_set-reported.new.bytes c.split_at_mut-set.ensures.front (omega (arith, made.within)) c.set_length.result
    c.set_length.ensures
    c.write_set-reported.ensures.written
    (none_left (option_map bytes_of c.write_set-reported.result.last)
    (sources_in (bytes_of c.args.piece.now.group) c.args.demand.now.form) (sym c.has_more.ensures ∙ c.if-has_more.false))
