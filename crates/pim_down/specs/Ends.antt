-- When the timers of records end, counted from the same moment as their countdowns. The run by
-- milliseconds of `Time` doesn't use these ends; the code uses them to jump from one to the next.
use Rattle.std.specs.Prelude.{◌≤◌, ℕ, ◌+◌, Bool, false, List, [], ◌∷◌, Option, None, Some, min, nat_le}
use Rattle.pim_down.specs.declared.machines.machine.Pending.{Pending}
use Rattle.pim_down.specs.declared.machines.machine.Machine.{Machine}
use Rattle.pim_down.specs.declared.machines.machine.Record.{Record}
use Rattle.pim_down.specs.Tables.{Start}

-- The lesser of two times, where `None` is never.
abbrev pub sooner : Option ℕ → Option ℕ → Option ℕ
sooner None b = b
sooner (Some a) None = Some a
sooner (Some a) (Some b) = Some (min a b)

-- When a Prune-Pending Timer ends, if one runs.
abbrev pub pending_end : Option Pending → Option ℕ
pending_end None = None
pending_end (Some timer) = Some timer.ends_in

-- The least end of all Expiry Timers and Prune-Pending Timers of the records; `None` if none ever
-- ends.
unfoldable pub first_end : List (Record (List ℕ)) → Option ℕ
first_end [] = None
first_end (held ∷ records) =
    sooner (sooner held.machine.expires_in (pending_end held.machine.pending)) (first_end records)

-- The end is no later than this moment. `None` is never.
abbrev pub ends_by : ℕ → Option ℕ → Bool
ends_by moment None = false
ends_by moment (Some ends) = nat_le ends moment

-- One for a Prune-Pending Timer that runs.
abbrev pub pending_weight : Option Pending → ℕ
pending_weight None = 0
pending_weight (Some timer) = 1

-- A number that falls whenever a timer fires: one for each record, and one for each Prune-Pending
-- Timer.
unfoldable pub weight : List (Record (List ℕ)) → ℕ
weight [] = 0
weight (held ∷ records) = 1 + pending_weight held.machine.pending + weight records

-- The end is not before this moment. `None` is never.
abbrev pub IsQuietUntil : ℕ → Option ℕ → Type 0
IsQuietUntil moment None = Unit {0}
IsQuietUntil moment (Some ends) = moment ≤ ends

-- No timer of the machine ends before this moment.
abbrev pub IsLate : ℕ → Machine → Type 0
IsLate moment held = IsQuietUntil moment held.expires_in × IsQuietUntil moment (pending_end held.pending)

-- No timer of these records ends before this moment.
unfoldable pub AreLate : ℕ → List (Record (List ℕ)) → Type 0
AreLate moment [] = Unit {0}
AreLate moment (held ∷ records) = IsLate moment held.machine × AreLate moment records

-- Neither timer that a message starts ends before this moment.
abbrev pub IsLateStart : ℕ → Start → Type 0
IsLateStart moment start = IsQuietUntil moment start.expires_in × (moment ≤ start.pending.ends_in)
