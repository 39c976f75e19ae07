-- A value for each of some machines, as contracts see it: a list of keys and values in key order.
use Rattle.std.specs.Prelude.{◌≡◌, ℕ, List, Option, Result, if◌then◌else◌}
use Rattle.std.specs.declared.cmp.Ordering.{Ordering}
use Rattle.std.specs.List.Sorted.{IsStrictlySortedBy}
use Rattle.std.specs.Map.{lookup, keys_of}
use Rattle.sorted_blocks.specs.declared.place.Place.{Place}
use Rattle.sorted_slab.specs.Listed.{Listed, IsFound}
use Rattle.pim_down.specs.declared.machines.key.Key.{Key}
use Rattle.pim_down.specs.Key.{key_cmp, same_key}
use Rattle.pim_down.specs.Seen.{key_seen}

module _ {A : Type 0} (bytes_of : A → List ℕ) where
  -- The order of keys, by their lists of bytes.
  abbrev pub order_of_keys : Key A → Key A → Ordering
  order_of_keys a b = key_cmp (key_seen bytes_of a) (key_seen bytes_of b)

  -- The items are in key order, and no key occurs twice.
  unfoldable pub IsInKeyOrder : {V : Type 0} → List (Key A × V) → Type 0
  IsInKeyOrder items = IsStrictlySortedBy order_of_keys (keys_of items)

  -- What the items hold for a machine.
  unfoldable pub held_for : {V : Type 0} → List (Key A × V) → Key (List ℕ) → Option V
  held_for items key = lookup (λ (at : Key A). same_key key (key_seen bytes_of at)) items

  -- The result of a search for a machine.
  abbrev pub IsPlaceFor : {V : Type 0} → Key A → Listed (Key A × V) → Result Place Place → Type 0
  IsPlaceFor {V} key list = IsFound (λ (item : Key A × V). order_of_keys item.0 key) list

  -- The new items hold this for a machine, and for every other one what the old items hold.
  abbrev pub Holds : {V : Type 0} → Key A → Option V → List (Key A × V) → List (Key A × V) → Type 0
  Holds changed value old new = (key : Key (List ℕ)) →
      held_for new key ≡ (if same_key (key_seen bytes_of changed) key then value else held_for old key)
