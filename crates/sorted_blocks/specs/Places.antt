-- Places in a list in blocks.
use Rattle.std.specs.Prelude.{ℕ, ◌+◌, ◌-◌, ◌<◌, ◌≤◌, List, length, take, drop}
use Rattle.sorted_blocks.specs.declared.place.Place.{Place}
use Rattle.sorted_blocks.specs.Shape.{Shape, joined, block_at}

module _ {A : Type 0} where
  -- The number of items of the list before the place.
  unfoldable pub before : Shape A → Place → ℕ
  before shape place = length (joined (take place.block shape.blocks)) + place.at

  -- The place is in a block, before one of its items or after the last; in a list without blocks it
  -- is the start.
  unfoldable pub IsPlace : Shape A → Place → Type 0
  IsPlace shape place =
      (place.block ≤ length shape.blocks - 1) × (place.at ≤ length (block_at shape.blocks place.block))

  -- The place is that of an item.
  unfoldable pub IsItem : Shape A → Place → Type 0
  IsItem shape place = (place.block < length shape.blocks) × (place.at < length (block_at shape.blocks place.block))

  -- The items of a block from the place on.
  unfoldable pub rest_of : Shape A → Place → List A
  rest_of shape place = drop place.at (block_at shape.blocks place.block)

  -- The list has a block at the place, and this block has room for `count` more items: it holds at
  -- most twice `half`.
  abbrev pub HasRoom : ℕ → Shape A → Place → ℕ → Type 0
  HasRoom half shape place count =
      (place.block < length shape.blocks) × (length (block_at shape.blocks place.block) + count ≤ half + half)
