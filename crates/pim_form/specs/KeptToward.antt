-- What remains of a form when only one upstream neighbour is asked.
use Rattle.std.specs.Prelude.{◌≡◌, ℕ, ◌≤◌, Bool, ◌||◌, nat_lt, List, [], ◌∷◌, Option, None, if◌then◌else◌}
use Rattle.std.specs.Prelude.{filter, length, take, drop, map}
use Rattle.pim_form.specs.declared.place.GroupPlace.{GroupPlace}
use Rattle.pim_form.specs.NormalForm.{GroupForm, is_empty}
use Rattle.pim_form.specs.Rows.{IsWithin, star_of, place_seen}
use Rattle.pim_form.specs.Toward.{star_rpf_neighbour, is_neighbour}

module _ (rps via : List ℕ → Option (List ℕ)) (neighbour : List ℕ) where
  -- The neighbour is RPF'(S,G) of this source, without asserts (RFC 7761, 4.1).
  abbrev pub is_reached : List ℕ → Bool
  is_reached source = is_neighbour neighbour (via source)

  -- The star, if the neighbour is RPF'(*,G) of the group, without asserts (RFC 7761, 4.1); else
  -- no star.
  abbrev pub star_toward : List ℕ → Option (List (List ℕ)) → Option (List (List ℕ))
  star_toward group star = if is_neighbour neighbour (star_rpf_neighbour via (rps group)) then star else None

  -- A group with only the star and the sources that are requested from the neighbour.
  abbrev pub group_toward : GroupForm → GroupForm
  group_toward this = record {
    group = this.group;
    star = star_toward this.group this.star;
    sources = filter is_reached this.sources;
  }

  -- The groups of which a star or a source remains.
  unfoldable pub form_toward : List GroupForm → List GroupForm
  form_toward [] = []
  form_toward (this ∷ form) =
      if is_empty (group_toward this).star (group_toward this).sources then form_toward form
      else (group_toward this ∷ form_toward form)

-- The other row begins with this row.
abbrev pub IsFront : {A : Type 0} → List A → List A → Type 0
IsFront row other = take (length row) other ≡ row

-- The place has a star or a source.
abbrev pub has_some : {A : Type 0} → GroupPlace A → Bool
has_some place = place.starred || nat_lt place.sources_start place.sources_end

-- The row grew by the exceptions of the star that remains; `starred` says whether one does.
pub record IsStarPushed {A : Type 0} (bytes_of : A → List ℕ) (star : Option (List (List ℕ))) (old new : List A)
    (starred : Bool) : Type 0 where
  pub front : IsFront old new
  pub longer : length old ≤ length new
  pub seen : star_of starred (map bytes_of (drop (length old) new)) ≡ star

-- The row grew by the addresses of the group, and the place shows that group in the new row.
pub record IsPushed {A : Type 0} (bytes_of : A → List ℕ) (this : GroupForm) (old new : List A) (place : GroupPlace A)
    : Type 0 where
  pub front : IsFront old new
  pub longer : length old ≤ length new
  pub within : IsWithin (length new) place
  pub seen : place_seen bytes_of new place ≡ this
