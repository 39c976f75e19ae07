-- Where a key's record is in a list of records in key order, or where it would be inserted.
use Rattle.std.specs.Prelude.{◌≡◌, ℕ, ◌+◌, ◌<◌, ◌≤◌, Bool, Option, Some, None, Result, Ok, Err}
use Rattle.std.specs.Prelude.{List, ◌++◌, length, take, drop, slice_index_or}
use Rattle.std.specs.Ordering.{is_lt}
use Rattle.pim_down.specs.declared.machines.key.Key.{Key}
use Rattle.pim_down.specs.declared.machines.machine.Machine.{Machine}
use Rattle.pim_down.specs.declared.machines.machine.Record.{Record}
use Rattle.pim_down.specs.Key.{key_cmp}
use Rattle.pim_down.specs.Records.{IsAscending, machine_at, recorded, changed}

-- The key's record is at this index. A change of its machine replaces or removes the record there.
pub record StandsAt (key : Key (List ℕ)) (records : List (Record (List ℕ))) (place : ℕ) : Type 0 where
  pub within : place < length records
  pub here : (d : Record (List ℕ)) → (slice_index_or records place d).key ≡ key
  pub machine : (d : Record (List ℕ)) → machine_at key records ≡ Some (slice_index_or records place d).machine
  pub after : (change : Option Machine → Option Machine) (d : Record (List ℕ)) →
      changed key change records ≡ take place records
      ++ (recorded key (change (Some (slice_index_or records place d).machine)) ++ drop (place + 1) records)

-- The key has no record, and a new one is inserted at this index.
pub record WouldStandAt (key : Key (List ℕ)) (records : List (Record (List ℕ))) (place : ℕ) : Type 0 where
  pub within : place ≤ length records
  pub machine : IsAscending records → machine_at key records ≡ None
  pub after : (change : Option Machine → Option Machine) →
      changed key change records ≡ take place records ++ (recorded key (change None) ++ drop place records)

-- The result of a search for a key: the index of its record, or as an error the index where it
-- would be inserted.
abbrev pub IsPlace : Key (List ℕ) → List (Record (List ℕ)) → Result ℕ ℕ → Type 0
IsPlace key records (Ok place) = StandsAt key records place
IsPlace key records (Err place) = WouldStandAt key records place

-- ---- which keys a binary search passes over

-- The key comes before the bound.
abbrev pub is_below : Key (List ℕ) → Key (List ℕ) → Bool
is_below bound key = is_lt (key_cmp key bound)
