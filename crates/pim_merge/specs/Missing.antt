-- What a census says to its router: that no message is for it, and that a group has no RP.
use Rattle.std.specs.Prelude.{ℕ, Bool, not, ◌&&◌, List, [], ◌∷◌, take, Option, None, Some}
use Rattle.std.specs.Prelude.{slice_index_or}
use Rattle.std.specs.Option.{is_some}
use Rattle.pim_addr.specs.declared.family.AddressFamily.{AddressFamily}
use Rattle.pim_addr.specs.Address.{address_length}
use Rattle.pim_addr.specs.Routes.{RouteTable, rp_of}
use Rattle.pim_merge.specs.declared.census.Census.{Census}

-- The address of a family in a field of 16 bytes.
abbrev pub address_in : AddressFamily → List ℕ → List ℕ
address_in family field = take (address_length family) field

-- The slot with this number has an item.
abbrev pub is_taken : ℕ → List (Option (List ℕ)) → Bool
is_taken number slots = is_some (slice_index_or slots number None)

-- Messages name upstream neighbours, and none names the own address.
abbrev pub misses : Census → Bool
misses census = is_taken 0 census.upstreams && not census.is_named

-- The group, unless it has an RP.
abbrev pub unless_served : List ℕ → Option (List ℕ) → Option (List ℕ)
unless_served group None = Some group
unless_served group (Some rp) = None

-- The group in a slot, if the table has no RP for it.
abbrev pub group_without_rp : AddressFamily → RouteTable → Option (List ℕ) → Option (List ℕ)
group_without_rp family table None = None
group_without_rp family table (Some group) =
    unless_served (address_in family group) (rp_of family table (address_in family group))

-- The first of two, if there is one, else the second.
abbrev pub first_of : {A : Type 0} → Option A → Option A → Option A
first_of None other = other
first_of (Some one) other = Some one

-- The first such group.
unfoldable pub first_without_rp : AddressFamily → RouteTable → List (Option (List ℕ)) → Option (List ℕ)
first_without_rp family table [] = None
first_without_rp family table (group ∷ groups) =
    first_of (group_without_rp family table group) (first_without_rp family table groups)

-- The first group of a Join(*,G) for the own address that has no RP in the table.
abbrev pub without_rp : AddressFamily → RouteTable → Census → Option (List ℕ)
without_rp family table census = first_without_rp family table census.groups
