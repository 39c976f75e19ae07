-- A form under construction, group by group.
use Rattle.std.specs.Prelude.{◌≡◌, ℕ, ◌≤◌, false, List, length}
use Rattle.std.specs.List.{AllByRecursion}
use Rattle.pim_form.specs.declared.place.GroupPlace.{GroupPlace}
use Rattle.pim_form.specs.NormalForm.{GroupForm}
use Rattle.pim_form.specs.Rows.{IsWithin, place_seen, form_seen}

-- The group's addresses are the last of a row of `size` addresses, its exceptions directly after
-- its sources. Without a star it has no exceptions.
pub record IsLast {A : Type 0} (size : ℕ) (place : GroupPlace A) : Type 0 where
  pub sources : place.sources_start ≤ place.sources_end
  pub middle : place.exceptions_start ≡ place.sources_end
  pub exceptions : place.exceptions_start ≤ place.exceptions_end
  pub last : place.exceptions_end ≡ size
  pub bare : place.starred ≡ false → place.exceptions_start ≡ place.exceptions_end

module _ {A : Type 0} (bytes_of : A → List ℕ) where
  -- The places lie within the row, and the groups at these places are this form.
  pub record IsDraft (row : List A) (places : List (GroupPlace A)) (form : List GroupForm) : Type 0 where
    pub within : AllByRecursion (IsWithin (length row)) places
    pub seen : form_seen bytes_of row places ≡ form

  -- Every draft in the first row is the same draft in the second row.
  abbrev pub Keeps : List A → List A → Type 0
  Keeps row row' =
      (places : List (GroupPlace A)) (form : List GroupForm) → IsDraft row places form → IsDraft row' places form

  -- The row grew by addresses of its last group, which becomes `form`. Every draft in the earlier
  -- row is kept.
  pub record Becomes (row row' : List A) (place : GroupPlace A) (form : GroupForm) : Type 0 where
    pub last : IsLast (length row') place
    pub seen : place_seen bytes_of row' place ≡ form
    pub kept : Keeps row row'
