-- What follows in key order on a port: its next group, and the next machine of a group. The order
-- is a choice of this project.
use Rattle.std.specs.Prelude.{ℕ, Bool, true, false, ◌&&◌, ◌==◌, List, Option, None, Some, option_map}
use Rattle.std.specs.List.{find}
use Rattle.std.specs.Ordering.{ordering_then, is_eq, is_lt, is_le, nat_cmp}
use Rattle.pim_down.specs.declared.machines.key.What.{What}
use Rattle.pim_down.specs.declared.machines.key.Key.{Key}
use Rattle.pim_down.specs.declared.machines.machine.Record.{Record}
use Rattle.pim_down.specs.Key.{address_cmp, what_cmp, key_cmp}
use Rattle.std.specs.declared.cmp.Ordering.{Ordering}
use Rattle.std.specs.declared.cmp.Ordering.TheVariants.{Less, Greater}
use Rattle.pim_down.specs.Records.{is_on}
use Rattle.pim_down.specs.Hearing.{is_rpt}

-- The group comes after the bound. Without a bound every group does.
abbrev pub is_above : Option (List ℕ) → List ℕ → Bool
is_above None group = true
is_above (Some bound) group = is_lt (address_cmp bound group)

-- A record of the port whose group comes after the bound.
abbrev pub is_of_group_after : ℕ → Option (List ℕ) → Record (List ℕ) → Bool
is_of_group_after port bound held = is_on port held && is_above bound held.key.group

-- The least group after the bound that has a record on the port, if there is one. Records are in
-- key order, so the first such record has it.
abbrev pub group_after : ℕ → Option (List ℕ) → List (Record (List ℕ)) → Option (List ℕ)
group_after port bound records = option_map (λ held. held.key.group) (find (is_of_group_after port bound) records)

-- A record of the port and the group whose machine comes after this one.
abbrev pub is_machine_after : ℕ → List ℕ → What (List ℕ) → Record (List ℕ) → Bool
is_machine_after port group what held =
    is_on port held && (is_eq (address_cmp held.key.group group) && is_lt (what_cmp what held.key.what))

-- The first record of the group on the port whose machine comes after this one, if there is one.
abbrev pub next_in_group : ℕ → List ℕ → What (List ℕ) → List (Record (List ℕ)) → Option (Record (List ℕ))
next_in_group port group what records = find (is_machine_after port group what) records

-- ---- the machines of a group on a port, one after another

-- What a walk over the machines of one group on one port has left. It still gives the records with
-- the port and group of the key `behind` that come after this key.
pub record MachinesLeft : Type 0 where
  pub records : List (Record (List ℕ))
  pub behind : Key (List ℕ)

-- The record that the walk gives next, if one is left.
abbrev pub next_machine : MachinesLeft → Option (Record (List ℕ))
next_machine left = next_in_group left.behind.port left.behind.group left.behind.what left.records

-- The walk after it gave this record: the rest comes after the record's key. Without a record the
-- walk is unchanged.
abbrev pub left_behind : MachinesLeft → Option (Record (List ℕ)) → MachinesLeft
left_behind left None = left
left_behind left (Some reported) = record { records = left.records; behind = reported.key }

-- ---- which keys a search passes over

-- The key comes before all groups of the port above the bound. Without a bound, it comes before all
-- groups of the port.
abbrev pub is_before_groups : ℕ → Option (List ℕ) → Key (List ℕ) → Bool
is_before_groups port None key = is_lt (nat_cmp key.port port)
is_before_groups port (Some bound) key = is_le (ordering_then (nat_cmp key.port port) (address_cmp key.group bound))

-- The key is the bound or comes before it.
abbrev pub is_up_to : Key (List ℕ) → Key (List ℕ) → Bool
is_up_to bound key = is_le (key_cmp key bound)

-- The key has the port and the group of the bound.
abbrev pub is_of_group : Key (List ℕ) → Key (List ℕ) → Bool
is_of_group bound key = (key.port == bound.port) && is_eq (address_cmp key.group bound.group)

-- How a machine of a group compares with the start of the group's (S,G,rpt) machines: greater if it
-- is one of them, less otherwise.
abbrev pub beside_rpts : Bool → Ordering
beside_rpts true = Greater
beside_rpts false = Less

-- The key comes before the (S,G,rpt) machines of this group on the port.
abbrev pub is_before_rpts : ℕ → List ℕ → Key (List ℕ) → Bool
is_before_rpts port group key =
    is_lt (ordering_then (ordering_then (nat_cmp key.port port) (address_cmp key.group group))
    (beside_rpts (is_rpt key.what)))
