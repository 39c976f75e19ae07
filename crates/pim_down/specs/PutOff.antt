-- Expiry Timers of records side by side that are put off together.
use Rattle.std.specs.Prelude.{◌≡◌, ℕ, zero, suc, ◌+◌, true, false, List, [], ◌∷◌, ◌++◌, Some, map, take, drop}
use Rattle.std.specs.declared.cmp.Ordering.TheVariants.{Less}
use Rattle.slab.specs.Slab.{Slab}
use Rattle.pim_down.specs.declared.machines.key.Key.{Key}
use Rattle.pim_down.specs.declared.records.deadline.Alarm.{Alarm}
use Rattle.pim_down.specs.declared.machines.held.Held.{Held}
use Rattle.pim_down.specs.Key.{key_cmp}
use Rattle.pim_down.specs.Schedule.{Numbered, with_alarm, key_of}
use Rattle.pim_down.specs.Seen.{key_seen}

-- The record, with another end of its Expiry Timer.
abbrev pub put_off : {A : Type 0} → ℕ → Held A → Held A
put_off to held = record {
  key = held.key;
  machine = record { state = held.machine.state; expires_at = Some to; pending = held.machine.pending };
}

-- These records, of which `count` from the index on are put off.
unfoldable pub put_off_from : {A : Type 0} → ℕ → ℕ → ℕ → List (Held A) → List (Held A)
put_off_from index count to items =
    take index items ++ map (put_off to) (take count (drop index items)) ++ drop (index + count) items

-- The timers of one kind with those of these records, which have these numbers and all end at this
-- moment.
unfoldable pub with_run : {A : Type 0} → (A → List ℕ) → ℕ → List ℕ → List (Held A) → List Numbered → List Numbered
with_run bytes_of ends [] run timers = timers
with_run bytes_of ends (number ∷ numbers) [] timers = timers
with_run bytes_of ends (number ∷ numbers) (held ∷ run) timers =
    with_alarm (key_seen bytes_of held.key) number (Some ends) (with_run bytes_of ends numbers run timers)

-- The alarm of the record with this number, with this end.
abbrev pub alarm_at : ℕ → ℕ → Alarm
alarm_at ends number = record { ends_at = ends; number = number }

-- The keys of the records with these numbers, of the first `count`, ascend from this key on.
unfoldable pub Ascend : {A : Type 0} → (A → List ℕ) → Slab (Held A) → ℕ → Key (List ℕ) → List ℕ → Type 0
Ascend bytes_of slab zero key numbers = Unit {0}
Ascend bytes_of slab (suc count) key [] = true ≡ false
Ascend bytes_of slab (suc count) key (number ∷ numbers) =
    (next : Key (List ℕ)) × (key_of bytes_of slab number ≡ Some next) × (key_cmp key next ≡ Less)
    × Ascend bytes_of slab count next numbers
