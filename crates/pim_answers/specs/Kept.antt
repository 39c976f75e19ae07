-- What is kept under names.
use Rattle.std.specs.Prelude.{ℕ, Bool, true, false, ◌&&◌, ◌||◌, not, nat_le, nat_lt, List, [], ◌∷◌, ◌++◌, length, slice_get, slice_set}
use Rattle.std.specs.Prelude.{Option, None, Some, is_some}
use Rattle.std.specs.List.{list_all, position}
use Rattle.std.specs.Str.{bytes_eq}
use Rattle.pim_addr.specs.declared.family.AddressFamily.{AddressFamily}
use Rattle.pim_addr.specs.Routes.{RouteTable, rp_of}
use Rattle.pim_form.specs.NormalForm.{GroupForm, same_address}
use Rattle.pim_form.specs.Toward.{via_of, is_toward}
use Rattle.pim_addr.specs.Families.{is_same}

-- What is kept under a name: the form of what was asked of a neighbour, and the RP of the group of
-- each of its stars.
pub record Kept : Type 0 where
  pub name : List ℕ
  pub family : AddressFamily
  pub form : List GroupForm
  pub stars : List (List ℕ × Option (List ℕ))

-- The place of a name among what is kept.
abbrev pub place_of : List ℕ → List Kept → Option ℕ
place_of name kept = position (λ (one : Kept). bytes_eq one.name name) kept

-- What is kept at this place.
abbrev pub kept_at : Option ℕ → List Kept → Option Kept
kept_at None kept = None
kept_at (Some place) kept = slice_get kept place

-- What is kept under this name.
abbrev pub kept_as : List ℕ → List Kept → Option Kept
kept_as name kept = kept_at (place_of name kept) kept

-- What is kept, with this at a place, or at the end.
abbrev pub kept_with : Option ℕ → Kept → List Kept → List Kept
kept_with None new kept = kept ++ new ∷ []
kept_with (Some place) new kept = slice_set kept place new

-- What is kept, with this over what its name held.
abbrev pub with_kept : Kept → List Kept → List Kept
with_kept new kept = kept_with (place_of new.name kept) new kept

-- Nothing can be kept under this name: it has more than 64 bytes, or it would be a 65th.
abbrev pub lacks_place : List ℕ → List Kept → Bool
lacks_place name kept = nat_lt 64 (length name) || (nat_le 64 (length kept) && not (is_some (place_of name kept)))

-- ---- stars

-- The group of a star, with its RP by this table.
abbrev pub star_of : AddressFamily → RouteTable → List ℕ → Option (List (List ℕ)) →
    List (List ℕ × Option (List ℕ)) → List (List ℕ × Option (List ℕ))
star_of family routes group None others = others
star_of family routes group (Some exceptions) others = (group, rp_of family routes group) ∷ others

-- The groups of the stars of a form, each with its RP by this table.
abbrev pub stars_of : AddressFamily → RouteTable → List GroupForm → List (List ℕ × Option (List ℕ))
stars_of family routes [] = []
stars_of family routes (this ∷ form) = star_of family routes this.group this.star (stars_of family routes form)

-- Both are the same address, or neither is there.
abbrev pub are_same : Option (List ℕ) → Option (List ℕ) → Bool
are_same None None = true
are_same None (Some other) = false
are_same (Some one) None = false
are_same (Some one) (Some other) = same_address one other

-- Each of these groups has the same RP by this table.
abbrev pub have_their_rps : AddressFamily → RouteTable → List (List ℕ × Option (List ℕ)) → Bool
have_their_rps family routes stars =
    list_all (λ (star : List ℕ × Option (List ℕ)). are_same (rp_of family routes star.0) star.1) stars

-- What is kept can be compared with what this router asks of the neighbour: its family is that of
-- the router, by the router's table all that it wants is asked of the neighbour, and each of its
-- stars has the RP that it had.
abbrev pub is_usable : AddressFamily → RouteTable → List ℕ → Kept → Bool
is_usable family routes upstream kept =
    is_same family kept.family && (is_toward (rp_of family routes) (via_of family routes) upstream kept.form
    && have_their_rps family routes kept.stars)
