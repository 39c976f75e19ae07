-- The result of a lookup. It requires no order of the list.
use Rattle.std.specs.Prelude.{◌≡◌, ℕ, ◌-◌, ◌<◌, List, length, slice_index_or, Result, Ok, Err}
use Rattle.std.specs.declared.cmp.Ordering.{Ordering}
use Rattle.std.specs.declared.cmp.Ordering.TheVariants.{Less, Equal, Greater}
use Rattle.sorted_blocks.specs.declared.place.Place.{Place}
use Rattle.sorted_blocks.specs.Shape.{Shape, items}
use Rattle.sorted_blocks.specs.Places.{before, IsPlace, IsItem}

module _ {A : Type 0} where
  -- The index is a gap: the item before it is less than what is sought, and the item at it is
  -- greater. At an end of the list the item that is missing is not required.
  pub record IsGap (order : A → Ordering) (xs : List A) (index : ℕ) : Type 0 where
    pub less : (d : A) → 0 < index → order (slice_index_or xs (index - 1) d) ≡ Less
    pub greater : (d : A) → index < length xs → order (slice_index_or xs index d) ≡ Greater

  -- The item at the index compares equal to what is sought.
  pub record IsEqualAt (order : A → Ordering) (xs : List A) (index : ℕ) : Type 0 where
    pub within : index < length xs
    pub equal : (d : A) → order (slice_index_or xs index d) ≡ Equal

  -- The result of a lookup: Ok with the place of an item that compares equal, or Err with a place
  -- in a gap.
  abbrev pub IsFound : (A → Ordering) → Shape A → Result Place Place → Type 0
  IsFound order shape (Ok place) = IsItem shape place × IsEqualAt order (items shape) (before shape place)
  IsFound order shape (Err place) = IsPlace shape place × IsGap order (items shape) (before shape place)
