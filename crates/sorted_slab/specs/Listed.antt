-- A list in order whose items are in a slab, as contracts see it.
use Rattle.std.specs.Prelude.{ℕ, ◌<◌, ◌≤◌, List, [], ◌∷◌, length, Option, None, Some, Result, Ok, Err, min}
use Rattle.std.specs.declared.cmp.Ordering.{Ordering}
use Rattle.std.specs.declared.cmp.Ordering.TheVariants.{Less}
use Rattle.slab.specs.Slab.{Slab, get}
use Rattle.sorted_blocks.specs.Shape.{Shape, items as numbers_of, capacity as index_capacity}
use Rattle.sorted_blocks.specs.declared.place.Place.{Place}
use Rattle.sorted_blocks.specs.Places.{before, IsPlace as IsIndexPlace, IsItem as IsIndexItem}
use Rattle.sorted_blocks.specs.Found.{IsGap, IsEqualAt}

-- The value of a list: the numbers of its items, in blocks; its items in order; and the number of
-- items that fit without memory.
pub record Listed (A : Type 0) : Type 0 where
  pub index : Shape ℕ
  pub items : List A
  pub capacity : ℕ

module _ {A : Type 0} where
  -- The numbers of the items in the slab, in the order of the list.
  abbrev pub numbers : Listed A → List ℕ
  numbers list = numbers_of list.index

  -- The number of items before the place.
  abbrev pub at : Listed A → Place → ℕ
  at list place = before list.index place

  -- The place is a place in the list.
  abbrev pub IsPlace : Listed A → Place → Type 0
  IsPlace list place = IsIndexPlace list.index place

  -- The place is that of an item.
  abbrev pub IsItem : Listed A → Place → Type 0
  IsItem list place = IsIndexItem list.index place × (at list place < length list.items)

  -- The result of a lookup: Ok with the place of an item that compares equal, or Err with a place
  -- in a gap.
  abbrev pub IsFound : (A → Ordering) → Listed A → Result Place Place → Type 0
  IsFound order list (Ok place) = IsItem list place × IsEqualAt order list.items (at list place)
  IsFound order list (Err place) =
      IsPlace list place × (at list place ≤ length list.items) × IsGap order list.items (at list place)

  -- ---- the items that have the numbers

  -- The items with one more at the front, if there is one.
  abbrev pub with_item : Option A → List A → List A
  with_item None items = items
  with_item (Some item) items = item ∷ items

  -- The items with these numbers, in this order; numbers without an item are left out.
  unfoldable pub found : (ℕ → Option A) → List ℕ → List A
  found held [] = []
  found held (number ∷ numbers) = with_item (held number) (found held numbers)

  -- The value of a list with this index and its items in this slab. Its capacity is the lesser of
  -- those of both.
  abbrev pub listed : Shape ℕ → Slab A → ℕ → Listed A
  listed index slab half = record {
    index = index;
    items = found (get slab) (numbers_of index);
    capacity = min slab.capacity (index_capacity half index);
  }

  -- The comparison of the item with a number to what is sought; `Less` where there is no item.
  abbrev pub order_of : (A → Ordering) → Option A → Ordering
  order_of order None = Less
  order_of order (Some item) = order item
