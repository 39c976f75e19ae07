-- Both sides of an audit: what the upstream neighbour was asked for, and what the router wants of it.
use Rattle.std.specs.Prelude.{◌≡◌, ℕ, Bool, true, ◌&&◌, ◌||◌, List}
use Rattle.pim_addr.specs.declared.family.AddressFamily.{AddressFamily}
use Rattle.pim_addr.specs.Address.{IsGroupAddress, IsSourceAddress}
use Rattle.pim_addr.specs.Routes.{RouteTable, rp_of}
use Rattle.pim_down.specs.declared.machines.key.What.TheVariants.{Star}
use Rattle.pim_down.specs.Hearing.{Event}
use Rattle.pim_down.specs.Sound.{HasSource}
use Rattle.pim_down.specs.Time.{Downstream}
use Rattle.pim_form.specs.Demanded.{either_demand}
use Rattle.pim_form.specs.NormalForm.{Demand}
use Rattle.pim_form.specs.Toward.{toward, via_of, is_neighbour, star_rpf_neighbour}
use Rattle.pim_form.specs.Wants.{is_joined, state_on, some_below, wants}
use Rattle.pim_form.specs.declared.tree.Tree.TheVariants.{Shared}
use Rattle.pim_local.specs.Joins.{Join}
use Rattle.pim_audit.specs.Dues.{Side}
use Rattle.pim_audit.specs.Local.{local_port}

-- The machines that heard what the upstream neighbour heard, those of the router, what its local
-- receivers have joined, its routes, and the neighbour.
pub record SidesState : Type 0 where
  pub asked : Downstream
  pub wanted : Downstream
  pub local : List Join
  pub routes : RouteTable
  pub upstream : List ℕ

-- Some port has (*,G) in Join or Prune-Pending: joins(*,G) isn't empty (RFC 7761, 4.1).
abbrev pub has_star : Downstream → List ℕ → Bool
has_star state group = some_below state.ports (λ port. is_joined (state_on state.records port group Star))

-- What the machines of all ports want.
abbrev pub side_of : Downstream → Side
side_of state = record { demand = wants state; star = has_star state }

-- What the router wants of the neighbour, for itself or for its local receivers (RFC 7761, 4.5.4 to
-- 4.5.6).
abbrev pub wanted_demand : AddressFamily → SidesState → Demand
wanted_demand family sides = toward (rp_of family sides.routes) (via_of family sides.routes) sides.upstream
    (either_demand (wants sides.wanted) (wants (local_port sides.local)))

-- The neighbour is RPF'(*,G) of the group.
abbrev pub is_rp_reached : AddressFamily → SidesState → List ℕ → Bool
is_rp_reached family sides group =
    is_neighbour sides.upstream (star_rpf_neighbour (via_of family sides.routes) (rp_of family sides.routes group))

-- Both sides.
abbrev pub asked_side : SidesState → Side
asked_side sides = side_of sides.asked

abbrev pub wanted_side : AddressFamily → SidesState → Side
wanted_side family sides = record {
  demand = wanted_demand family sides;
  star = λ group. (has_star sides.wanted group || has_star (local_port sides.local) group) && is_rp_reached family sides group;
}

-- ---- when a side's stars are those of its demand, and which entries have valid addresses

-- A valid source that is wanted on the shared tree of the group.
pub record HasShared (family : AddressFamily) (demand : Demand) (group : List ℕ) : Type 0 where
  pub source : List ℕ
  pub valid : IsSourceAddress family source
  pub wanted : demand source group Shared ≡ true

-- A group has a star exactly if some source is wanted on its shared tree.
pub record IsSide (family : AddressFamily) (side : Side) : Type 0 where
  pub some : (group : List ℕ) → IsGroupAddress family group → side.star group ≡ true → HasShared family side.demand group
  pub only : (source group : List ℕ) → IsSourceAddress family source → IsGroupAddress family group →
      side.demand source group Shared ≡ true → side.star group ≡ true

-- The group and the source of the entry are valid addresses.
pub record IsEntry (family : AddressFamily) (entry : Event) : Type 0 where
  pub group : IsGroupAddress family entry.group
  pub source : HasSource family entry.what
