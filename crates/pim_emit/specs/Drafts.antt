-- A Join/Prune message (RFC 7761, 4.9.5) that is being made in a buffer, and the message that comes
-- next.
use Rattle.std.specs.Prelude.{◌≡◌, ℕ, ◌+◌, ◌*◌, ◌≤◌, true, false, List, [], ◌++◌, Option, None, Some}
use Rattle.std.specs.Prelude.{length, map, take, drop, if◌then◌else◌}
use Rattle.std.specs.List.{AllByRecursion, flat_map}
use Rattle.std.specs.declared.cmp.Ordering.TheVariants.{Less}
use Rattle.pim_addr.specs.declared.family.AddressFamily.{AddressFamily}
use Rattle.pim_down.specs.Key.{address_cmp}
use Rattle.pim_jp.specs.Canonical.{canonical_set, canonical_head_length}
use Rattle.pim_form.specs.NormalForm.{GroupForm, AreAscending, groups_of, is_empty}
use Rattle.pim_form.specs.Units.{WantUnit, units_of, run_entries, empty_message_size, empty_set_size, entry_size}
use Rattle.pim_form.specs.Packing.{fits, IsNonempty, StopsBefore}
use Rattle.pim_form.specs.Messages.{Writing, CarriesRun, written_set}
use Rattle.pim_emit.specs.declared.position.Position.{Position}
use Rattle.pim_emit.specs.declared.draft.Draft.{Draft}
use Rattle.pim_emit.specs.DemandSeen.{DemandSeen}
use Rattle.pim_addr.specs.Routes.{rp_of}
use Rattle.pim_emit.specs.Left.{left_at, is_past, IsPosition, position_seen}

-- What contracts see of a draft, addresses as their bytes.
abbrev pub draft_seen : {A : Type 0} → (A → List ℕ) → Draft A → Draft (List ℕ)
draft_seen bytes_of draft = record {
  position = position_seen bytes_of draft.position;
  groups = draft.groups;
  end = draft.end;
  is_full = draft.is_full;
}

-- The index at which the first set begins: after the PIM header and the fields before the groups.
abbrev pub body_start : AddressFamily → ℕ
body_start family = 4 + canonical_head_length family

-- The size of a message with this number of groups and entries, in bytes.
abbrev pub message_size : AddressFamily → ℕ → ℕ → ℕ
message_size family groups entries =
    empty_message_size family + groups * empty_set_size family + entries * entry_size family

module _ (family : AddressFamily) (budget : ℕ) (demand_seen : DemandSeen) where
  -- The message began at the position `begun`. The units written are those of `part`, whose sets
  -- are in the buffer; the units after the draft's position are left. A full draft has no room for
  -- the next unit, or no unit is left.
  pub record IsDraft (begun : Position (List ℕ)) (draft : Draft (List ℕ)) (bytes : List ℕ) : Type 0 where
    pub part : List GroupForm
    pub reported : units_of (left_at begun demand_seen.form)
        ≡ units_of part ++ units_of (left_at draft.position demand_seen.form)
    pub position : IsPosition family draft.position
    pub ascending : AreAscending (groups_of part)
    pub some : AllByRecursion (λ this. is_empty this.star this.sources ≡ false) part
    pub groups : draft.groups ≡ length part
    pub few : draft.groups ≤ 255
    pub end : draft.end ≡ message_size family (length part) (run_entries (units_of part))
    pub within : draft.end ≤ budget
    pub sets : drop (body_start family) (take draft.end bytes)
        ≡ flat_map (canonical_set family) (map (written_set (rp_of family demand_seen.table)) part)
    pub goes_on : draft.is_full ≡ false → (group : List ℕ) → is_past draft.position group ≡ true →
        AllByRecursion (λ this. address_cmp this.group group ≡ Less) part
    pub stops : draft.is_full ≡ true →
        StopsBefore family budget (units_of part) (units_of (left_at draft.position demand_seen.form))

  -- The draft began at some position.
  pub record IsBegun (draft : Draft (List ℕ)) (bytes : List ℕ) : Type 0 where
    pub begun : Position (List ℕ)
    pub made : IsDraft begun draft bytes

  -- A count that falls with each step: the units that are left, and one until the draft is full.
  abbrev pub steps_left : Draft (List ℕ) → ℕ
  steps_left draft =
      length (units_of (left_at draft.position demand_seen.form)) + (if draft.is_full then 0 else 1)

-- ---- the message that comes next

module _ (family : AddressFamily) (writing : Writing) (demand_seen : DemandSeen) where
  -- These bytes are the Join/Prune message of the units between two positions: at least one, and as
  -- many as fit.
  pub record IsMessage (from to : Position (List ℕ)) (bytes : List ℕ) : Type 0 where
    pub run : List WantUnit
    pub units : units_of (left_at from demand_seen.form) ≡ run ++ units_of (left_at to demand_seen.form)
    pub some : IsNonempty run
    pub fitting : fits family writing.budget run ≡ true
    pub stops : StopsBefore family writing.budget run (units_of (left_at to demand_seen.form))
    pub carries : CarriesRun family writing (rp_of family demand_seen.table) run bytes
    pub position : IsPosition family to

  -- The message is at the front of the bytes, with this length; `None` if no unit is left.
  abbrev pub IsNext : Position (List ℕ) → Position (List ℕ) → List ℕ → Option ℕ → Type 0
  IsNext from to bytes None = units_of (left_at from demand_seen.form) ≡ []
  IsNext from to bytes (Some length) = IsMessage from to (take length bytes)
