-- The schedule: the timers that run, in the order in which they fire. They fire by end, at one end
-- Prune-Pending Timers before Expiry Timers, then by key. This order is a choice of this project.
use Rattle.std.specs.Prelude.{◌≡◌, ℕ, ◌+◌, ◌-◌, ◌*◌, ◌≤◌, false, if◌then◌else◌}
use Rattle.std.specs.Prelude.{List, [], ◌∷◌, length, map, Option, None, Some, option_map, nat_lt}
use Rattle.std.specs.declared.cmp.Ordering.{Ordering}
use Rattle.std.specs.declared.cmp.Ordering.TheVariants.{Less}
use Rattle.std.specs.List.{slice_get, AllByRecursion}
use Rattle.std.specs.Ordering.{nat_cmp, ordering_then, is_eq, is_gt}
use Rattle.slab.specs.Slab.{Slab, get}
use Rattle.sorted_slab.specs.Listed.{Listed, numbers}
use Rattle.pim_down.specs.declared.records.deadline.Alarm.{Alarm}
use Rattle.pim_down.specs.declared.records.deadline.Deadline.{Deadline}
use Rattle.pim_down.specs.declared.records.deadline.TimerKind.{TimerKind}
use Rattle.pim_down.specs.declared.records.deadline.TimerKind.TheVariants.{PendingTimer, ExpiryTimer}
use Rattle.pim_down.specs.declared.machines.held.Held.{Held}
use Rattle.pim_down.specs.declared.machines.key.Key.{Key}
use Rattle.pim_down.specs.declared.machines.machine.Machine.{Machine}
use Rattle.pim_down.specs.declared.machines.machine.Record.{Record}
use Rattle.pim_down.specs.Key.{key_cmp}
use Rattle.pim_down.specs.Ends.{pending_end, first_end, ends_by}
use Rattle.pim_down.specs.Seen.{timed_seen, key_seen, records_seen}

-- ---- lists in an order

module _ {X : Type 0} (cmp : X → X → Ordering) where
  -- The list with the item put before the first one that the item isn't greater than.
  unfoldable pub placed : X → List X → List X
  placed x [] = x ∷ []
  placed x (y ∷ ys) = if is_gt (cmp x y) then y ∷ placed x ys else x ∷ y ∷ ys

  -- The list without the first item that compares as equal.
  unfoldable pub without : X → List X → List X
  without x [] = []
  without x (y ∷ ys) = if is_eq (cmp x y) then ys else y ∷ without x ys

  -- The item is greater than none of these.
  unfoldable pub IsLow : X → List X → Type 0
  IsLow x [] = Unit {0}
  IsLow x (y ∷ ys) = (is_gt (cmp x y) ≡ false) × IsLow x ys

  -- The items ascend; items that compare as equal may follow one another.
  unfoldable pub IsInOrder : List X → Type 0
  IsInOrder [] = Unit {0}
  IsInOrder (x ∷ xs) = IsLow x xs × IsInOrder xs

-- ---- timers

-- The order of the timers that end at one time: Prune-Pending Timers come first.
abbrev pub timer_rank : TimerKind → ℕ
timer_rank PendingTimer = 0
timer_rank ExpiryTimer = 1

-- The order in which timers fire: by end, by kind, by key.
unfoldable pub deadline_cmp : Deadline (List ℕ) → Deadline (List ℕ) → Ordering
deadline_cmp a b =
    ordering_then (ordering_then (nat_cmp a.ends_at b.ends_at) (nat_cmp (timer_rank a.timer) (timer_rank b.timer)))
    (key_cmp a.key b.key)

-- A timer, with its addresses as lists of bytes.
abbrev pub deadline_seen : {A : Type 0} → (A → List ℕ) → Deadline A → Deadline (List ℕ)
deadline_seen bytes_of deadline =
    record { ends_at = deadline.ends_at; timer = deadline.timer; key = key_seen bytes_of deadline.key }

-- When the machine's timer of this kind ends, if it runs.
abbrev pub end_of : TimerKind → Machine → Option ℕ
end_of PendingTimer machine = pending_end machine.pending
end_of ExpiryTimer machine = machine.expires_in

-- The timers with one more, if it runs.
abbrev pub with_end : TimerKind → Key (List ℕ) → Option ℕ → List (Deadline (List ℕ)) → List (Deadline (List ℕ))
with_end timer key None deadlines = deadlines
with_end timer key (Some ends) deadlines =
    placed deadline_cmp (record { ends_at = ends; timer = timer; key = key }) deadlines

-- The timers with those of one more record.
abbrev pub with_timers : Record (List ℕ) → List (Deadline (List ℕ)) → List (Deadline (List ℕ))
with_timers held deadlines =
    with_end PendingTimer held.key (end_of PendingTimer held.machine)
    (with_end ExpiryTimer held.key (end_of ExpiryTimer held.machine) deadlines)

-- The timers of the records, in the order in which they fire.
unfoldable pub timers_of : List (Record (List ℕ)) → List (Deadline (List ℕ))
timers_of [] = []
timers_of (held ∷ records) = with_timers held (timers_of records)

-- ---- the timers of one kind

-- A timer of one kind that runs: its end, the key of its record, and the number of its record.
pub record Numbered : Type 0 where
  pub ends_at : ℕ
  pub key : Key (List ℕ)
  pub number : ℕ

-- The order in which timers of one kind fire: by end, by key. Numbers only tell apart timers that
-- are equal in both.
unfoldable pub alarm_cmp : Numbered → Numbered → Ordering
alarm_cmp a b =
    ordering_then (ordering_then (nat_cmp a.ends_at b.ends_at) (key_cmp a.key b.key)) (nat_cmp a.number b.number)

-- The timer as the schedule keeps it, without the key.
abbrev pub alarm_of : Numbered → Alarm
alarm_of timer = record { ends_at = timer.ends_at; number = timer.number }

-- An alarm with the key of its record.
abbrev pub alarm_seen : {A : Type 0} → (A → List ℕ) → Key A → Alarm → Numbered
alarm_seen bytes_of key alarm =
    record { ends_at = alarm.ends_at; key = key_seen bytes_of key; number = alarm.number }

-- The timers of one kind with one more, if it runs.
abbrev pub with_alarm : Key (List ℕ) → ℕ → Option ℕ → List Numbered → List Numbered
with_alarm key number None timers = timers
with_alarm key number (Some ends) timers =
    placed alarm_cmp (record { ends_at = ends; key = key; number = number }) timers

-- The timers of this kind with that of one more record, if it runs; the record has this number.
abbrev pub with_its : {A : Type 0} → (A → List ℕ) → TimerKind → Held A → ℕ → List Numbered → List Numbered
with_its bytes_of timer held number timers =
    with_alarm (key_seen bytes_of held.key) number (end_of timer (timed_seen held.machine)) timers

-- The timers of this kind of the records that have these numbers, in the order in which they fire.
unfoldable pub numbered : TimerKind → List ℕ → List (Record (List ℕ)) → List Numbered
numbered timer [] records = []
numbered timer (number ∷ numbers) [] = []
numbered timer (number ∷ numbers) (held ∷ records) =
    with_alarm held.key number (end_of timer held.machine) (numbered timer numbers records)

module _ {A : Type 0} (bytes_of : A → List ℕ) (slab : Slab (Held A)) where
  -- The key of the record with this number.
  abbrev pub key_of : ℕ → Option (Key (List ℕ))
  key_of number = option_map (λ held. key_seen bytes_of held.key) (get slab number)

  -- The timers are in order, and each has the key of the record with its number.
  pub record AreKnown (timers : List Numbered) : Type 0 where
    pub keys : AllByRecursion (λ timer. key_of timer.number ≡ Some timer.key) timers
    pub order : IsInOrder alarm_cmp timers

  -- How the key of a record compares with this key; less where there is no record.
  abbrev pub key_order : Key (List ℕ) → Option (Held A) → Ordering
  key_order key None = Less
  key_order key (Some held) = key_cmp (key_seen bytes_of held.key) key

  -- How an alarm compares with a timer that is searched.
  unfoldable pub alarm_order : Numbered → Alarm → Ordering
  alarm_order sought alarm =
      ordering_then
      (ordering_then (nat_cmp alarm.ends_at sought.ends_at) (key_order sought.key (get slab alarm.number)))
      (nat_cmp alarm.number sought.number)

-- ---- the schedule

-- The alarms of one kind as a contract sees them: in their order, and how many fit without memory.
pub record AlarmList : Type 0 where
  pub alarms : List Alarm
  pub capacity : ℕ

-- The invariant of a store: the two lists have exactly the timers of the records, of which there
-- are at most `space`. If `space` isn't 0, each list has room for timers of `space` records, and
-- for one more.
pub record IsTimed {A : Type 0} (bytes_of : A → List ℕ) (rows : Listed (Held A)) (pending expiry : AlarmList) (space : ℕ) :
    Type 0 where
  pub prunes : pending.alarms ≡ map alarm_of (numbered PendingTimer (numbers rows) (records_seen bytes_of rows.items))
  pub expiries : expiry.alarms ≡ map alarm_of (numbered ExpiryTimer (numbers rows) (records_seen bytes_of rows.items))
  pub fits : length rows.items ≤ space
  pub prune_room : space ≤ pending.capacity - 1
  pub expiry_room : space ≤ expiry.capacity - 1
  pub small : 2 * space + 2 ≤ 18446744073709551615

-- The timer of this kind that an alarm stands for, with the key of its record.
abbrev pub deadline_at : {A : Type 0} → Slab (Held A) → TimerKind → Option Alarm → Option (Deadline A)
deadline_at slab timer None = None
deadline_at slab timer (Some alarm) =
    option_map (λ held. record { ends_at = alarm.ends_at; timer = timer; key = held.key }) (get slab alarm.number)

-- The timer of this kind that fires first.
abbrev pub first_in : TimerKind → List Numbered → Option (Deadline (List ℕ))
first_in timer [] = None
first_in timer (first ∷ timers) = Some (record { ends_at = first.ends_at; timer = timer; key = first.key })

-- The second timer if it ends before the first one, and otherwise the first one.
abbrev pub sooner_of : {A : Type 0} → Option (Deadline A) → Option (Deadline A) → Option (Deadline A)
sooner_of None b = b
sooner_of (Some a) None = Some a
sooner_of (Some a) (Some b) = if nat_lt b.ends_at a.ends_at then Some b else Some a

-- The first of the records' timers, if it ends no later than this moment; `None` if none does.
abbrev pub IsFirstBy : {A : Type 0} → (A → List ℕ) → ℕ → List (Record (List ℕ)) → Option (Deadline A) → Type 0
IsFirstBy bytes_of last records None = ends_by last (first_end records) ≡ false
IsFirstBy bytes_of last records (Some deadline) =
    (slice_get (timers_of records) 0 ≡ Some (deadline_seen bytes_of deadline)) × (deadline.ends_at ≤ last)

-- How a count of looks at timers grows: by one if a timer is found, by one at most if none is.
abbrev pub IsLookedAt : {A : Type 0} → ℕ → ℕ → Option (Deadline A) → Type 0
IsLookedAt before now None = (before ≤ now) × (now ≤ before + 1)
IsLookedAt before now (Some deadline) = now ≡ before + 1
