-- What holds of the downstream machines between calls.
use Rattle.std.specs.Prelude.{◌≡◌, ℕ, ◌≤◌, ◌<◌, Bool, true, false, List, [], ◌∷◌}
use Rattle.std.specs.Option.{is_some}
use Rattle.std.specs.List.{AllByRecursion}
use Rattle.pim_addr.specs.declared.family.AddressFamily.{AddressFamily}
use Rattle.pim_addr.specs.Address.{IsGroupAddress, IsSourceAddress}
use Rattle.pim_down.specs.declared.machines.key.What.{What}
use Rattle.pim_down.specs.declared.machines.key.What.TheVariants.{Star, Source, Rpt}
use Rattle.pim_down.specs.declared.machines.machine.State.{State}
use Rattle.pim_down.specs.declared.machines.machine.State.TheVariants.{Join, PrunePending, Prune, PruneTmp, PrunePendingTmp}
use Rattle.pim_down.specs.declared.machines.machine.Record.{Record}
use Rattle.pim_down.specs.Records.{IsAscending, count_on}
use Rattle.pim_down.specs.Time.{Downstream}

-- PruneTmp or Prune-Pending-Tmp: an (S,G,rpt) machine has these states only while a message is
-- heard (RFC 7761, 4.5.3, Figure 4).
abbrev pub is_temporary : State → Bool
is_temporary Join = false
is_temporary PrunePending = false
is_temporary Prune = false
is_temporary PruneTmp = true
is_temporary PrunePendingTmp = true

-- No machine is in PruneTmp or Prune-Pending-Tmp.
unfoldable pub IsSettled : List (Record (List ℕ)) → Type 0
IsSettled [] = Unit {0}
IsSettled (held ∷ records) = (is_temporary held.machine.state ≡ false) × IsSettled records

-- ---- a record that is held

-- The source of an (S,G) or (S,G,rpt) machine is a valid source address.
abbrev pub HasSource : AddressFamily → What (List ℕ) → Type 0
HasSource family Star = Unit {0}
HasSource family (Source source) = IsSourceAddress family source
HasSource family (Rpt source) = IsSourceAddress family source

-- Join or Prune-Pending: the states of a (*,G) or (S,G) machine that is held (RFC 7761, Figures 2
-- and 3).
abbrev pub joined_or_pending : State → Bool
joined_or_pending Join = true
joined_or_pending PrunePending = true
joined_or_pending _ = false

-- Prune or Prune-Pending: the states of an (S,G,rpt) machine that is held between messages (RFC
-- 7761, Figure 4).
abbrev pub pruned_or_pending : State → Bool
pruned_or_pending Prune = true
pruned_or_pending PrunePending = true
pruned_or_pending _ = false

-- A machine of this kind may have this state between messages (RFC 7761, Figures 2 to 4).
abbrev pub has_state : What (List ℕ) → State → Bool
has_state Star state = joined_or_pending state
has_state (Source source) state = joined_or_pending state
has_state (Rpt source) state = pruned_or_pending state

-- The state is Prune-Pending.
abbrev pub is_pending : State → Bool
is_pending PrunePending = true
is_pending _ = false

-- A record that may be held: its port exists, its group and source are valid addresses, its state
-- fits the machine, and its Prune-Pending Timer runs exactly in Prune-Pending.
pub record IsReal (family : AddressFamily) (ports : ℕ) (held : Record (List ℕ)) : Type 0 where
  pub port : held.key.port < ports
  pub group : IsGroupAddress family held.key.group
  pub source : HasSource family held.key.what
  pub state : has_state held.key.what held.machine.state ≡ true
  pub timer : is_some held.machine.pending ≡ is_pending held.machine.state

-- ---- all records

-- The whole invariant between calls: each record is real, records are in key order, no machine is
-- in a Tmp state, and no port exceeds the limit. Ports, limit and moment have fixed bounds.
pub record IsSound (family : AddressFamily) (state : Downstream) : Type 0 where
  pub ports : state.ports ≤ 64
  pub limit : state.limit ≤ 100000
  pub moment : state.moment ≤ 1000000000000000
  pub ascending : IsAscending state.records
  pub settled : IsSettled state.records
  pub real : AllByRecursion (IsReal family state.ports) state.records
  pub within : (port : ℕ) → count_on port state.records ≤ state.limit
