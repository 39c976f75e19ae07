-- Lists of items with an address each, addresses ascending: IPv4 first, and in a family by their
-- bytes.
use Rattle.std.specs.Prelude.{◌≡◌, ℕ, suc, nat_lt, Bool, true, false, ◌&&◌, ◌||◌, not, List, []}
use Rattle.std.specs.Prelude.{◌∷◌, length, bytes_eq}
use Rattle.std.specs.Prelude.{Option, None, Some, is_some, insert, if◌then◌else◌, ⊤}
use Rattle.std.specs.Option.{IfSome}
use Rattle.std.specs.List.{AllByRecursion}
use Rattle.pim_addr.specs.Address.{number_of}
use Rattle.pim_lines.specs.declared.either.AnyAddress.{AnyAddress}
use Rattle.pim_lines.specs.declared.either.AnyAddress.TheVariants.{V4, V6}

-- ---- addresses

-- An address comes before another one. Its bytes make a number, the first one the most significant.
abbrev pub is_below : AnyAddress → AnyAddress → Bool
is_below (V4 one) (V4 other) = nat_lt (number_of one) (number_of other)
is_below (V4 one) (V6 other) = true
is_below (V6 one) (V4 other) = false
is_below (V6 one) (V6 other) = nat_lt (number_of one) (number_of other)

-- Two addresses are the same.
abbrev pub is_same : AnyAddress → AnyAddress → Bool
is_same (V4 one) (V4 other) = bytes_eq one other
is_same (V4 one) (V6 other) = false
is_same (V6 one) (V4 other) = false
is_same (V6 one) (V6 other) = bytes_eq one other

-- ---- lists

module _ {T : Type 0} (key : T → AnyAddress) where
  -- No address is below one before it.
  unfoldable pub Ascends : List T → Type 0
  Ascends [] = ⊤
  Ascends (item ∷ items) = AllByRecursion (λ later. is_below (key later) (key item)
      ≡ false) items × Ascends items

  module _ (address : AnyAddress) where
    -- The number of items before the first one whose address isn't below this one.
    unfoldable pub place_of : List T → ℕ
    place_of [] = 0
    place_of (item ∷ items) = if is_below (key item) address then suc (place_of items) else 0

    -- The item with this address.
    unfoldable pub item_at : List T → Option T
    item_at [] = None
    item_at (item ∷ items) =
        if is_below (key item) address then item_at items else (if is_same address (key item) then
        Some item else None)

    -- An item has this address.
    abbrev pub has : List T → Bool
    has items = is_some (item_at items)

    -- The list with the item of this address changed. A list without one gets this new item,
    -- changed, before the first one whose address isn't below it.
    unfoldable pub put : T → (T → T) → List T → List T
    put new change [] = change new ∷ []
    put new change (item ∷ items) =
        if is_below (key item) address then item ∷ put new change items
        else (if is_same address (key item) then change item ∷ items else change new ∷ item ∷ items)

    -- ---- at most `most` items

    -- The list of at most `most` items has an item with this address, or room for a new one.
    abbrev pub keeps : ℕ → List T → Bool
    keeps most items = has items || nat_lt (length items) most

    -- It has none, but room for it.
    abbrev pub takes_new : ℕ → List T → Bool
    takes_new most items = not (has items) && nat_lt (length items) most

    -- The same as `put`, unless the address is above the bound.
    abbrev pub listed : ℕ → T → (T → T) → List T → List T
    listed most new change items = if keeps most items then put new change items else items

    -- The new item, where the list takes it.
    abbrev pub spare_of : ℕ → T → List T → Option T
    spare_of most new items = if takes_new most items then Some new else None

    -- The item is there exactly where the list takes a new one, and has this address.
    abbrev pub IsSpare : ℕ → List T → Option T → Type 0
    IsSpare most items spare = (is_some spare
        ≡ takes_new most items) × IfSome spare (λ item. key item ≡ address)

    -- The list with this item in its place, if there is one.
    abbrev pub settled : Option T → List T → List T
    settled None items = items
    settled (Some item) items = insert items (place_of items) item

    -- The place of the item with this address, if the list keeps one.
    abbrev pub kept_place : ℕ → List T → Option ℕ
    kept_place most items = if keeps most items then Some (place_of items) else None
