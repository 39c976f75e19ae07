-- How a form is kept: one row with the addresses of all groups, and for each group the place of its
-- own addresses in the row.
use Rattle.std.specs.Prelude.{◌≡◌, ℕ, ◌≤◌, ◌<◌, slice_index_or, Bool, false, List, [], ◌∷◌, Option, None, Some, length, take}
use Rattle.std.specs.Prelude.{drop, map, if◌then◌else◌}
use Rattle.std.specs.List.{AllByRecursion}
use Rattle.pim_form.specs.declared.place.GroupPlace.{GroupPlace}
use Rattle.pim_addr.specs.declared.family.AddressFamily.{AddressFamily}
use Rattle.pim_form.specs.NormalForm.{GroupForm, IsNormalGroup, IsNormal, is_listed}

-- The part of a row from `start` up to `end`.
abbrev pub between : {A : Type 0} → ℕ → ℕ → List A → List A
between start end row = drop start (take end row)

-- The group's sources and exceptions are parts of a row of `size` addresses.
abbrev pub IsWithin : {A : Type 0} → ℕ → GroupPlace A → Type 0
IsWithin size place = (place.sources_start ≤ place.sources_end) × (place.sources_end ≤ size)
    × (place.exceptions_start ≤ place.exceptions_end) × (place.exceptions_end ≤ size)

-- A star with these exceptions, or no star.
abbrev pub star_of : Bool → List (List ℕ) → Option (List (List ℕ))
star_of starred exceptions = if starred then Some exceptions else None

-- The exceptions of a star; none without a star.
abbrev pub exceptions_of : Option (List (List ℕ)) → List (List ℕ)
exceptions_of None = []
exceptions_of (Some exceptions) = exceptions

-- The form's first group and the others, or `None` for a form without groups.
abbrev pub IsCut : List GroupForm → Option (GroupForm × List GroupForm) → Type 0
IsCut form None = form ≡ []
IsCut form (Some (this, others)) = form ≡ this ∷ others

module _ {A : Type 0} (bytes_of : A → List ℕ) where
  -- A group of addresses of type `A`, as a `GroupForm` of their bytes.
  abbrev pub group_seen : A → Bool → List A → List A → GroupForm
  group_seen group starred exceptions sources = record {
    group = bytes_of group;
    star = star_of starred (map bytes_of exceptions);
    sources = map bytes_of sources;
  }

  -- The group at a place of the row.
  abbrev pub place_seen : List A → GroupPlace A → GroupForm
  place_seen row place = group_seen place.group place.starred
      (between place.exceptions_start place.exceptions_end row) (between place.sources_start place.sources_end row)

  -- The groups at these places of the row.
  abbrev pub form_seen : List A → List (GroupPlace A) → List GroupForm
  form_seen row places = map (place_seen row) places

  -- The places lie within the row, and each group there is normal.
  abbrev pub AreKept : AddressFamily → List A → List (GroupPlace A) → Type 0
  AreKept family row places =
      AllByRecursion (IsWithin (length row)) places × AllByRecursion (IsNormalGroup family) (form_seen row places)

  -- The places lie within the row, and the groups there are a normal form.
  pub record IsKept (family : AddressFamily) (row : List A) (places : List (GroupPlace A)) : Type 0 where
    pub within : AllByRecursion (IsWithin (length row)) places
    pub normal : IsNormal family (form_seen row places)

  -- The group address of a place.
  abbrev pub place_group : GroupPlace A → List ℕ
  place_group place = bytes_of place.group

  -- The index of a group among the places, or `None` where no place has that group.
  abbrev pub Finds : List ℕ → List (GroupPlace A) → Option ℕ → Type 0
  Finds group places None = is_listed group (map place_group places) ≡ false
  Finds group places (Some index) =
      (index < length places) × ((d : GroupPlace A) → place_group (slice_index_or places index d) ≡ group)
