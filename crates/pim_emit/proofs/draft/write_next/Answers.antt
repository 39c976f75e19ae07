use Rattle.pim_emit.proofs.Words.{arith, subst, length, IsNextPiece, position_seen, piece_seen, draft_seen}
use Rattle.std.specs.Prelude.{option_map}
use Rattle.pim_emit.proofs.DraftSteps.{few_exceptions, filled_before, one_at_most}
use Rattle.pim_emit.proofs.draft.write_next.Goals.{then-room-eq0-via-then-room-eq0, then-room-eq0-via-else-room-eq0+then-room-from}
use Rattle.pim_emit.proofs.draft.write_next.Goals as goal

pub overflow_add-from : goal.overflow_add-from
overflow_add-from g c =
    let few = few_exceptions g.F.Family.family (piece_seen g.F.Family.bytes_of c.in-Some.piece) c.args.demand.now.form
    c.is_normal.ensures.normal in
    omega (arith, few, c.exceptions_left-exceptions.ensures, c.from.ensures, one_at_most c.in-Some.piece.starred)

pub returns-then-room-eq0-clause-draft : goal.returns-then-room-eq0-clause-draft
returns-then-room-eq0-clause-draft g c begun made =
    let bytes_of = g.F.Family.bytes_of in
    let is = subst (λ r. IsNextPiece g.F.Family.family (position_seen bytes_of c.args.draft.now.position)
    c.args.demand.now.form (option_map (piece_seen bytes_of) r)) c.in-Some.is c.next_piece.ensures in
    filled_before g.F.Family.family (length c.args.bytes.now) c.args.demand.now begun
    (draft_seen bytes_of c.args.draft.now) c.args.bytes.now made c.groups_are_counted.ensures c.requires.open
    (piece_seen bytes_of c.in-Some.piece) is c.room-room.result c.room-room.ensures
    (elim c.then-room-eq0.branch [
      | then-room-eq0-via-then-room-eq0 w ↦ omega (arith, w.if-room-eq0.true)
      | then-room-eq0-via-else-room-eq0+then-room-from w ↦ omega (
        arith,
        w.if-room-from.true,
        w.from.ensures,
        one_at_most c.in-Some.piece.starred,
        c.exceptions_left-exceptions.ensures,
      )
    ])
