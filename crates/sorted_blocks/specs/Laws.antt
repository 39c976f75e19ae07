-- Laws for callers: what a place is.
use Rattle.std.specs.Prelude.{◌<◌, ◌≤◌, length}
use Rattle.sorted_blocks.specs.declared.place.Place.{Place}
use Rattle.sorted_blocks.specs.Shape.{Shape, items}
use Rattle.sorted_blocks.specs.Places.{before, IsPlace, IsItem}

-- The place of an item is a place, and precedes the end of the list.
abbrev pub ItemHasAPlace : Type 0 → Type 0
ItemHasAPlace A = (shape : Shape A) (place : Place) → IsItem shape place →
    IsPlace shape place × (before shape place < length (items shape))

-- No place is after the end of the list.
abbrev pub PlaceIsWithin : Type 0 → Type 0
PlaceIsWithin A = (shape : Shape A) (place : Place) → IsPlace shape place → before shape place ≤ length (items shape)
