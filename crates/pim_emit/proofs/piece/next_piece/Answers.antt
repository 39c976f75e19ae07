use Rattle.pim_emit.proofs.Words.{◌≡◌, ◌∙◌, true, false, option_map, sym, ap, subst, is_some, IsGroupAddress, IsNormalGroup}
use Rattle.pim_emit.proofs.Words.{Within, IsPosition, IsPiece, IsNextPiece, position_seen, piece_seen, next_above, sources_in}
use Rattle.pim_emit.proofs.Above.{next_group, next_group_holds}
use Rattle.pim_emit.proofs.Pieces.{IsBetween, between_start, between_behind, between_within, at_position, group_piece, no_piece, rest_piece, none_there}
use Rattle.pim_emit.proofs.piece.next_piece.Goals.{in-Start, in-Behind, in-Within+else-has_source}
use Rattle.pim_emit.proofs.piece.next_piece.Goals as goal

pub returns-then-has_source : goal.returns-then-has_source
returns-then-has_source g c =
    let family = g.F.Family.family in
    let bytes_of = g.F.Family.bytes_of in
    let form = c.args.demand.now.form in
    let group = bytes_of c.in-Within.group in
    let from = option_map bytes_of c.in-Within.from in
    let seen : position_seen bytes_of c.args.position ≡ Within group from = ap (position_seen bytes_of) c.in-Within.is in
    let some : is_some (next_above from (sources_in group form)) ≡ true =
    sym c.has_source.ensures ∙ c.if-has_source.true in
    subst (λ p. IsPiece family p form (piece_seen bytes_of (record { group = c.in-Within.group; starred = false; from = c.in-Within.from }))) (sym seen)
    (rest_piece family group from form c.is_normal.ensures.normal (subst (IsPosition family) seen c.requires) some)

pub returns-in_err-group : goal.returns-in_err-group
returns-in_err-group g c =
    let family = g.F.Family.family in
    let bytes_of = g.F.Family.bytes_of in
    let form = c.args.demand.now.form in
    let position = position_seen bytes_of c.args.position in
    let bound = option_map bytes_of c.match-position.bound in
    let between : IsBetween position bound form = elim c.match-position.branch [
      | in-Start w ↦ at_position form (ap (position_seen bytes_of) w.in-Start.is) (ap (option_map bytes_of) w.bound-is) (between_start form)
      | in-Behind w ↦ at_position form (ap (position_seen bytes_of) w.in-Behind.is) (ap (option_map bytes_of) w.bound-is) (between_behind (bytes_of w.in-Behind.group) form)
      | in-Within+else-has_source w ↦ at_position form (ap (position_seen bytes_of) w.in-Within.is) (ap (option_map bytes_of) w.bound-is)
          (between_within (bytes_of w.in-Within.group) (option_map bytes_of w.in-Within.from) form
          (none_there (next_above (option_map bytes_of w.in-Within.from) (sources_in (bytes_of w.in-Within.group) form)) (sym w.has_source.ensures ∙ w.if-has_source.false)))
    ] in
    subst (λ r. IsNextPiece family position form (option_map (piece_seen bytes_of) r)) (sym c.from_residual.ensures)
    (no_piece family position bound form between (sym c.next_group.ensures ∙ ap (option_map bytes_of) (c.in_err-group.was)))

pub has_star-requires : goal.has_star-requires
has_star-requires g c =
    let form = c.args.demand.now.form in
    let bytes_of = g.F.Family.bytes_of in
    let bound = option_map bytes_of c.match-position.bound in
    let found = sym c.next_group.ensures ∙ ap (option_map bytes_of) (c.in_ok-group.was) in
    let group = bytes_of c.in_ok-group.group in
    subst (IsGroupAddress g.F.Family.family) (next_group bound form group c.is_normal.ensures.normal.ascending found).named
    (next_group_holds (IsNormalGroup g.F.Family.family) bound form group c.is_normal.ensures.normal.ascending c.is_normal.ensures.normal.groups found).group

pub returns : goal.returns
returns g c =
    let family = g.F.Family.family in
    let bytes_of = g.F.Family.bytes_of in
    let form = c.args.demand.now.form in
    let position = position_seen bytes_of c.args.position in
    let bound = option_map bytes_of c.match-position.bound in
    let between : IsBetween position bound form = elim c.match-position.branch [
      | in-Start w ↦ at_position form (ap (position_seen bytes_of) w.in-Start.is) (ap (option_map bytes_of) w.bound-is) (between_start form)
      | in-Behind w ↦ at_position form (ap (position_seen bytes_of) w.in-Behind.is) (ap (option_map bytes_of) w.bound-is) (between_behind (bytes_of w.in-Behind.group) form)
      | in-Within+else-has_source w ↦ at_position form (ap (position_seen bytes_of) w.in-Within.is) (ap (option_map bytes_of) w.bound-is)
          (between_within (bytes_of w.in-Within.group) (option_map bytes_of w.in-Within.from) form
          (none_there (next_above (option_map bytes_of w.in-Within.from) (sources_in (bytes_of w.in-Within.group) form)) (sym w.has_source.ensures ∙ w.if-has_source.false)))
    ] in
    let found = sym c.next_group.ensures ∙ ap (option_map bytes_of) (c.in_ok-group.was) in
    group_piece family position bound form (bytes_of c.in_ok-group.group) c.has_star.result c.is_normal.ensures.normal between found c.has_star.ensures
