-- The downstream machines that are held, as a finite map from keys to machines. The map has one
-- form: a list of records in strictly ascending key order. A machine in NoInfo isn't held.
use Rattle.std.specs.Prelude.{◌≡◌, ℕ, ◌+◌, Bool, List, [], ◌∷◌, ◌++◌, Option, None, Some, ◌==◌, if◌then◌else◌}
use Rattle.std.specs.declared.cmp.Ordering.{Ordering}
use Rattle.std.specs.declared.cmp.Ordering.TheVariants.{Less, Equal, Greater}
use Rattle.pim_down.specs.declared.machines.key.Key.{Key}
use Rattle.pim_down.specs.declared.machines.machine.State.{State}
use Rattle.pim_down.specs.declared.machines.machine.Machine.{Machine}
use Rattle.pim_down.specs.declared.machines.machine.Record.{Record}
use Rattle.pim_down.specs.Key.{key_cmp, same_key}

-- The key comes before the keys of all these records.
unfoldable pub IsBelow : Key (List ℕ) → List (Record (List ℕ)) → Type 0
IsBelow key [] = Unit {0}
IsBelow key (held ∷ records) = (key_cmp key held.key ≡ Less) × IsBelow key records

-- The records are in key order, and no key occurs twice.
unfoldable pub IsAscending : List (Record (List ℕ)) → Type 0
IsAscending [] = Unit {0}
IsAscending (held ∷ records) = IsBelow held.key records × IsAscending records

-- The machine at a key; `None` is NoInfo.
unfoldable pub machine_at : Key (List ℕ) → List (Record (List ℕ)) → Option Machine
machine_at key [] = None
machine_at key (held ∷ records) = if same_key key held.key then Some held.machine else machine_at key records

-- The record is of this port.
abbrev pub is_on : ℕ → Record (List ℕ) → Bool
is_on port held = held.key.port == port

-- How many records the port has.
unfoldable pub count_on : ℕ → List (Record (List ℕ)) → ℕ
count_on port [] = 0
count_on port (held ∷ records) = (if held.key.port == port then 1 else 0) + count_on port records

-- The record of a machine, as a list; a machine in NoInfo has none.
abbrev pub recorded : Key (List ℕ) → Option Machine → List (Record (List ℕ))
recorded key None = []
recorded key (Some machine) = record { key = key; machine = machine } ∷ []

-- One of three lists, chosen by a comparison.
abbrev pub at_rank : Ordering → List (Record (List ℕ)) → List (Record (List ℕ)) → List (Record (List ℕ)) →
    List (Record (List ℕ))
at_rank Less below at above = below
at_rank Equal below at above = at
at_rank Greater below at above = above

-- The records after a change of the machine at one key. The law `change_acts_at_its_key` says what
-- this leaves at each key.
unfoldable pub changed : Key (List ℕ) → (Option Machine → Option Machine) → List (Record (List ℕ)) →
    List (Record (List ℕ))
changed key change [] = recorded key (change None)
changed key change (held ∷ records) =
    at_rank (key_cmp key held.key)
    (recorded key (change None) ++ held ∷ records)
    (recorded held.key (change (Some held.machine)) ++ records)
    (held ∷ changed key change records)

-- The records after a change of every machine that is held. Machines in NoInfo stay in NoInfo.
unfoldable pub each_changed : (Key (List ℕ) → Option Machine → Option Machine) → List (Record (List ℕ)) →
    List (Record (List ℕ))
each_changed change [] = []
each_changed change (held ∷ records) =
    recorded held.key (change held.key (Some held.machine)) ++ each_changed change records

-- At each key the records after have what the change makes of the machine before. This states a
-- change without regard to lists.
abbrev pub ChangesAtEach : (Key (List ℕ) → Option Machine → Option Machine) → List (Record (List ℕ)) →
    List (Record (List ℕ)) → Type 0
ChangesAtEach change before after = (key : Key (List ℕ)) → machine_at key after ≡ change key (machine_at key before)

-- The state of a machine; `None` is NoInfo.
abbrev pub state_of_machine : Option Machine → Option State
state_of_machine None = None
state_of_machine (Some machine) = Some machine.state

-- The state of the machine at a key; `None` is NoInfo.
abbrev pub state_of : Key (List ℕ) → List (Record (List ℕ)) → Option State
state_of key records = state_of_machine (machine_at key records)
