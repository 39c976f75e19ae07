-- What is left of a normal form after a position in it. The units of a form are in order: of each
-- group first its star, then its sources.
use Rattle.std.specs.Prelude.{◌≡◌, ℕ, Bool, true, false, List, [], ◌∷◌, ◌++◌, Option, None, Some, is_some}
use Rattle.std.specs.Prelude.{if◌then◌else◌, option_map}
use Rattle.std.specs.List.{filter, find}
use Rattle.pim_addr.specs.declared.family.AddressFamily.{AddressFamily}
use Rattle.pim_addr.specs.Address.{IsGroupAddress}
use Rattle.pim_down.specs.After.{is_above}
use Rattle.pim_form.specs.NormalForm.{GroupForm, is_empty}
use Rattle.pim_form.specs.Rows.{exceptions_of}
use Rattle.pim_form.specs.Settled.{group_in}
use Rattle.pim_form.specs.Units.{group_units, units_of}
use Rattle.pim_emit.specs.declared.position.Position.{Position}
use Rattle.pim_emit.specs.declared.position.Position.TheVariants.{Start, Within, Behind}
use Rattle.pim_emit.specs.declared.piece.Piece.{Piece}

-- ---- lists of addresses in order

-- The addresses above a bound; without a bound all.
abbrev pub above : Option (List ℕ) → List (List ℕ) → List (List ℕ)
above bound addresses = filter (is_above bound) addresses

-- The first address above a bound; without a bound the first of all.
abbrev pub next_above : Option (List ℕ) → List (List ℕ) → Option (List ℕ)
next_above bound addresses = find (is_above bound) addresses

-- ---- what a form has of a group

-- The exceptions of the group's star in a form, or `None` if the group has no star.
abbrev pub star_of : List ℕ → List GroupForm → Option (List (List ℕ))
star_of group form = (group_in group form).star

-- The exceptions of the group's star in a form.
abbrev pub exceptions_in : List ℕ → List GroupForm → List (List ℕ)
exceptions_in group form = exceptions_of (group_in group form).star

-- The sources of the group in a form.
abbrev pub sources_in : List ℕ → List GroupForm → List (List ℕ)
sources_in group form = (group_in group form).sources

-- ---- positions

-- The part of a form with the groups above a bound.
abbrev pub groups_above : Option (List ℕ) → List GroupForm → List GroupForm
groups_above bound form = filter (λ this. is_above bound this.group) form

-- Both forms have the same stars of the groups above a bound.
abbrev pub HaveSameStars : Option (List ℕ) → List GroupForm → List GroupForm → Type 0
HaveSameStars bound one other = (group : List ℕ) → is_above bound group ≡ true → star_of group one ≡ star_of group other

-- What is left of a group after its star and its sources up to a bound.
abbrev pub sources_left : GroupForm → Option (List ℕ) → GroupForm
sources_left this bound = record { group = this.group; star = None; sources = above bound this.sources }

-- What is left of a form after a position.
abbrev pub left_at : Position (List ℕ) → List GroupForm → List GroupForm
left_at Start form = form
left_at (Within group source) form =
    sources_left (group_in group form) source ∷ groups_above (Some group) form
left_at (Behind group) form = groups_above (Some group) form

-- A position within a group names a group address of the family.
abbrev pub IsPosition : AddressFamily → Position (List ℕ) → Type 0
IsPosition family Start = Unit {0}
IsPosition family (Within group source) = IsGroupAddress family group
IsPosition family (Behind group) = Unit {0}

-- Whether units of the group may follow the position: after a whole group only groups above it may
-- follow.
abbrev pub is_past : Position (List ℕ) → List ℕ → Bool
is_past Start group = true
is_past (Within begun source) group = true
is_past (Behind reported) group = is_above (Some reported) group

-- ---- the next piece of a group

-- A piece as a group of a form: the star, if the piece has it, and the sources above its bound.
abbrev pub piece_form : Piece (List ℕ) → List GroupForm → GroupForm
piece_form piece form = record {
  group = piece.group;
  star = if piece.starred then star_of piece.group form else None;
  sources = above piece.from (sources_in piece.group form);
}

-- The piece is what is left of the first group after a position, and isn't empty. The groups above
-- it follow.
pub record IsPiece (family : AddressFamily) (position : Position (List ℕ)) (form : List GroupForm)
    (piece : Piece (List ℕ)) : Type 0 where
  pub group : IsGroupAddress family piece.group
  pub star : piece.starred ≡ true → is_some (star_of piece.group form) ≡ true
  pub some : is_empty (piece_form piece form).star (piece_form piece form).sources ≡ false
  pub past : is_past position piece.group ≡ true
  pub units : units_of (left_at position form)
      ≡ group_units (piece_form piece form) ++ units_of (groups_above (Some piece.group) form)

-- The piece comes next after a position; `None` if nothing is left.
abbrev pub IsNextPiece : AddressFamily → Position (List ℕ) → List GroupForm → Option (Piece (List ℕ)) → Type 0
IsNextPiece family position form None = units_of (left_at position form) ≡ []
IsNextPiece family position form (Some piece) = IsPiece family position form piece

-- ---- what a contract sees: addresses as their lists of bytes

module _ {A : Type 0} (bytes_of : A → List ℕ) where
  -- What contracts see of a position.
  abbrev pub position_seen : Position A → Position (List ℕ)
  position_seen Start = Start
  position_seen (Within group source) = Within (bytes_of group) (option_map bytes_of source)
  position_seen (Behind group) = Behind (bytes_of group)

  -- What contracts see of a piece.
  abbrev pub piece_seen : Piece A → Piece (List ℕ)
  piece_seen piece = record {
    group = bytes_of piece.group;
    starred = piece.starred;
    from = option_map bytes_of piece.from;
  }
