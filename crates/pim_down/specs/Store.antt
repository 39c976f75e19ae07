-- The records of all ports as the code keeps them: in a list with places, and with counts for each
-- port.
use Rattle.std.specs.Prelude.{◌≡◌, ℕ, ◌<◌, ◌≤◌, Bool, true, false, List, length, slice_index_or}
use Rattle.std.specs.Prelude.{Result, Ok, Err}
use Rattle.std.specs.declared.cmp.Ordering.{Ordering}
use Rattle.std.specs.declared.cmp.Ordering.TheVariants.{Less, Greater}
use Rattle.std.specs.List.Sorted.{IsPartitionPoint}
use Rattle.sorted_blocks.specs.declared.place.Place.{Place}
use Rattle.sorted_slab.specs.Listed.{Listed, at, IsPlace as IsListPlace, IsItem}
use Rattle.pim_down.specs.declared.machines.held.Held.{Held}
use Rattle.pim_down.specs.declared.machines.key.Key.{Key}
use Rattle.pim_down.specs.Hearing.{rpt_count_on}
use Rattle.pim_down.specs.Records.{count_on}
use Rattle.pim_down.specs.Places.{StandsAt, WouldStandAt}
use Rattle.pim_down.specs.Seen.{records_seen, key_seen}
use Rattle.pim_down.specs.After.{is_up_to}

-- The invariant of the rows: for each of 64 ports the counts of its records and of its (S,G,rpt)
-- records are right. The list has the capacity for all records.
pub record IsKept {A : Type 0} (counts rpts : List ℕ) (list : Listed (Held A)) : Type 0 where
  pub counted : (bytes_of : A → List ℕ) (port : ℕ) → port < 64 →
      slice_index_or counts port 0 ≡ count_on port (records_seen bytes_of list.items)
  pub rpts_counted : (bytes_of : A → List ℕ) (port : ℕ) → port < 64 →
      slice_index_or rpts port 0 ≡ rpt_count_on port (records_seen bytes_of list.items)
  pub fits : length list.items ≤ list.capacity

-- How a record compares with a bound: less if it is before the bound, greater otherwise.
abbrev pub side : Bool → Ordering
side true = Less
side false = Greater

-- The result of a search for a key: the place of its record, or as an error the place where it
-- would be inserted.
abbrev pub IsPlaceOf : {A : Type 0} → (A → List ℕ) → Key (List ℕ) → Listed (Held A) → Result Place Place → Type 0
IsPlaceOf bytes_of key list (Ok place) =
    IsItem list place × StandsAt key (records_seen bytes_of list.items) (at list place)
IsPlaceOf bytes_of key list (Err place) =
    IsListPlace list place × WouldStandAt key (records_seen bytes_of list.items) (at list place)

module _ {X : Type 0} where
  -- No item before this index passes the test.
  abbrev pub NoneBefore : (X → Bool) → List X → ℕ → Type 0
  NoneBefore test xs i = (k : ℕ) (d : X) → k < i → k < length xs → test (slice_index_or xs k d) ≡ false

-- The place after all records whose keys are at most this one.
pub record IsBehind {A : Type 0} (bytes_of : A → List ℕ) (key : Key A) (list : Listed (Held A)) (place : Place) : Type 0 where
  pub is_place : IsListPlace list place
  pub is_item : at list place < length list.items → IsItem list place
  pub parts : IsPartitionPoint (λ (held : Held A). is_up_to (key_seen bytes_of key) (key_seen bytes_of held.key) ≡ true)
      (λ (held : Held A). is_up_to (key_seen bytes_of key) (key_seen bytes_of held.key) ≡ false) list.items (at list place)
