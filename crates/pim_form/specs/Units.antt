-- The units that messages are made of, and the size of a run of units.
use Rattle.std.specs.Prelude.{ℕ, ◌+◌, ◌*◌, Bool, false, List, [], ◌∷◌, ◌++◌, Option, None, Some, length, map}
use Rattle.std.specs.Prelude.{if◌then◌else◌}
use Rattle.std.specs.List.{flat_map}
use Rattle.pim_addr.specs.declared.family.AddressFamily.{AddressFamily}
use Rattle.pim_addr.specs.declared.family.AddressFamily.TheVariants.{Ipv4, Ipv6}
use Rattle.pim_form.specs.NormalForm.{GroupForm, same_address}

-- What isn't split over messages: the star of a group with all its exceptions (RFC 7761, 4.9.5.2),
-- or one source of a group.
pub data WantUnit : Type 0 where
  star_unit : List ℕ → List (List ℕ) → WantUnit
  source_unit : List ℕ → List ℕ → WantUnit

-- The group of a unit.
abbrev pub unit_group : WantUnit → List ℕ
unit_group (star_unit group exceptions) = group
unit_group (source_unit group source) = group

-- The star of a group as a list of one unit; no unit without a star.
abbrev pub star_units : List ℕ → Option (List (List ℕ)) → List WantUnit
star_units group None = []
star_units group (Some exceptions) = star_unit group exceptions ∷ []

-- The units of a group: its star, then each source.
abbrev pub group_units : GroupForm → List WantUnit
group_units form = star_units form.group form.star ++ map (source_unit form.group) form.sources

-- The units of a form, group by group.
abbrev pub units_of : List GroupForm → List WantUnit
units_of form = flat_map group_units form

-- ---- sizes in bytes (RFC 7761, 4.9, 4.9.1 and 4.9.5)

-- A message without groups: PIM header, encoded upstream neighbour, and 4 bytes of counts and
-- holdtime.
abbrev pub empty_message_size : AddressFamily → ℕ
empty_message_size Ipv4 = 14
empty_message_size Ipv6 = 26

-- A group set without entries: the encoded group address and two counts.
abbrev pub empty_set_size : AddressFamily → ℕ
empty_set_size Ipv4 = 12
empty_set_size Ipv6 = 24

-- An encoded source address.
abbrev pub entry_size : AddressFamily → ℕ
entry_size Ipv4 = 8
entry_size Ipv6 = 20

-- The number of entries of a unit. A star has one entry of its own and one for each exception.
abbrev pub unit_entries : WantUnit → ℕ
unit_entries (star_unit group exceptions) = 1 + length exceptions
unit_entries (source_unit group source) = 1

-- The number of entries of a run.
unfoldable pub run_entries : List WantUnit → ℕ
run_entries [] = 0
run_entries (this ∷ run) = unit_entries this + run_entries run

-- The unit before, if there is one, is of this group.
abbrev pub is_of_group : Option (List ℕ) → List ℕ → Bool
is_of_group None group = false
is_of_group (Some before) group = same_address before group

-- The number of groups that begin in a run that follows a unit of the group `before`. The units of
-- a group are adjacent.
unfoldable pub groups_behind : Option (List ℕ) → List WantUnit → ℕ
groups_behind before [] = 0
groups_behind before (this ∷ run) =
    (if is_of_group before (unit_group this) then 0 else 1) + groups_behind (Some (unit_group this)) run

-- The number of groups in a run.
abbrev pub run_groups : List WantUnit → ℕ
run_groups run = groups_behind None run

-- The number of bytes of the Join/Prune message of a run.
abbrev pub run_size : AddressFamily → List WantUnit → ℕ
run_size family run =
    empty_message_size family + run_groups run * empty_set_size family + run_entries run * entry_size family
