-- Route tables: one finite map from group prefixes to RPs, and one from prefixes to upstream
-- neighbours. They supply RP(G) and the MRIB of RFC 7761.
use Rattle.std.specs.Prelude.{◌≡◌, ◌≤◌, ℕ, Bool, true, List, [], ◌∷◌, ◌++◌, length, filter, not, ◌&&◌, ◌==◌, nat_lt}
use Rattle.std.specs.Prelude.{nat_le, Option, Some, None, option_map, is_some, Result, Ok, Err, if◌then◌else◌}
use Rattle.std.specs.List.{AllByRecursion}
use Rattle.std.specs.List.Sorted.{IsStrictlySortedBy}
use Rattle.std.specs.declared.cmp.Ordering.{Ordering}
use Rattle.std.specs.Ordering.{nat_cmp, ordering_then}
use Rattle.std.specs.Cmp.Lexicographic.{slice_cmp}
use Rattle.std.specs.BTreeMap.{is_at, insert_entry}
use Rattle.std.specs.Map.{lookup, keys_of}
use Rattle.pim_addr.specs.Address.{IsAddress, mask_length, is_group, is_source, first_bits, ends_within}
use Rattle.pim_addr.specs.Faults.{fault_if}
use Rattle.pim_addr.specs.declared.family.AddressFamily.{AddressFamily}
use Rattle.pim_addr.specs.declared.family.AddressFamily.TheVariants.{Ipv4, Ipv6}
use Rattle.pim_addr.specs.declared.route_fault.RouteFault.{RouteFault}
use Rattle.pim_addr.specs.declared.route_fault.RouteFault.TheVariants.{Length, Bits, Kind, Twice, Full, Memory}

-- A prefix: the first `bits` bits of an address.
pub record Prefix : Type 0 where
  pub bits : ℕ
  pub address : List ℕ

-- A row of a map: a prefix, and the RP or upstream neighbour that it leads to.
abbrev pub Row : Type 0
Row = Prefix × List ℕ

-- A route table: the map to RPs and the map to upstream neighbours.
pub record RouteTable : Type 0 where
  pub rps : List Row
  pub vias : List Row

-- The table without rows.
abbrev pub no_routes : RouteTable
no_routes = record { rps = []; vias = [] }

-- ---- lookups

-- The address begins with the prefix of the row.
abbrev pub matches : AddressFamily → List ℕ → Row → Bool
matches family address row = first_bits family row.0.bits row.0.address == first_bits family row.0.bits address

-- The row, or the other one where its prefix is longer.
abbrev pub longer_of : Row → Option Row → Row
longer_of row None = row
longer_of row (Some other) = if nat_lt row.0.bits other.0.bits then other else row

-- The row with the longest prefix; the first of several that are equally long.
abbrev pub longest : List Row → Option Row
longest [] = None
longest (row ∷ rows) = Some (longer_of row (longest rows))

-- The address that the longest matching row leads to, or `None` where no row matches.
unfoldable pub led_to : AddressFamily → List ℕ → List Row → Option (List ℕ)
led_to family address rows = option_map (λ row. row.1) (longest (filter (matches family address) rows))

-- RP(G) by the table: the RP to which it leads the group, and `None` where it leads nowhere
-- (RFC 7761, 4.7.1).
abbrev pub rp_of : AddressFamily → RouteTable → List ℕ → Option (List ℕ)
rp_of family table group = led_to family group table.rps

-- The upstream neighbour through which an address is reached (MRIB.next_hop of RFC 7761).
abbrev pub via : AddressFamily → List ℕ → RouteTable → Option (List ℕ)
via family address table = led_to family address table.vias

-- ---- rows are kept in one order: longer prefixes first, prefixes of one length by their bytes

-- The order of prefixes: the longer first, those of one length by their bytes.
unfoldable pub prefix_cmp : Prefix → Prefix → Ordering
prefix_cmp this that = ordering_then (nat_cmp that.bits this.bits) (slice_cmp nat_cmp this.address that.address)

-- The rows ascend strictly in this order, so that no prefix occurs twice.
abbrev pub AreInOrder : List Row → Type 0
AreInOrder rows = IsStrictlySortedBy prefix_cmp (keys_of rows)

-- The address that the rows hold for this prefix, if any.
abbrev pub row_at : Prefix → List Row → Option (List ℕ)
row_at prefix rows = lookup (is_at (prefix_cmp prefix)) rows

-- ---- one more row

-- The rows with one more row, at its place in the order.
abbrev pub with_row : Prefix → List ℕ → List Row → List Row
with_row prefix to rows = insert_entry prefix_cmp rows prefix to

-- The table with one more row to an RP.
abbrev pub with_rp : Prefix → List ℕ → RouteTable → RouteTable
with_rp prefix rp table = record { rps = with_row prefix rp table.rps; vias = table.vias }

-- The table with one more row to an upstream neighbour.
abbrev pub with_via : Prefix → List ℕ → RouteTable → RouteTable
with_via prefix neighbour table = record { rps = table.rps; vias = with_row prefix neighbour table.vias }

-- The greatest number of rows of each map.
abbrev pub row_limit : ℕ
row_limit = 4096

-- The number of leading bits that all groups of the family share: 4 or 8.
abbrev pub group_bits : AddressFamily → ℕ
group_bits Ipv4 = 4
group_bits Ipv6 = 8

-- All addresses with this prefix are groups.
abbrev pub is_group_prefix : AddressFamily → Prefix → Bool
is_group_prefix family prefix = is_group family prefix.address && nat_le (group_bits family) prefix.bits

-- The faults of a prefix: more bits than an address has, or a bit set after the first `bits`. All
-- lists of faults are in the order of the numbers of `RouteFault`.
abbrev pub prefix_faults : AddressFamily → Prefix → List RouteFault
prefix_faults family prefix =
    fault_if (nat_lt (mask_length family) prefix.bits) Length ++
    fault_if (not (ends_within family prefix.bits prefix.address)) Bits

-- The faults of a row against its map: the prefix is there already, or the map is full.
abbrev pub room_faults : Prefix → List Row → List RouteFault
room_faults prefix rows =
    fault_if (is_some (row_at prefix rows)) Twice ++ fault_if (nat_le row_limit (length rows)) Full

-- All faults of a row to an RP. The RP must be a valid source, and all addresses of the prefix
-- groups.
abbrev pub rp_faults : AddressFamily → Prefix → List ℕ → List Row → List RouteFault
rp_faults family prefix rp rows =
    prefix_faults family prefix ++
    (fault_if (not (is_source family rp && is_group_prefix family prefix)) Kind ++ room_faults prefix rows)

-- All faults of a row to an upstream neighbour, which must be a valid source.
abbrev pub via_faults : AddressFamily → Prefix → List ℕ → List Row → List RouteFault
via_faults family prefix neighbour rows =
    prefix_faults family prefix ++ (fault_if (not (is_source family neighbour)) Kind ++ room_faults prefix rows)

-- The result of adding a row with these faults: the first fault where there is one, else Ok, or
-- Memory where memory runs out.
abbrev pub IsRefusedBy : List RouteFault → Result (Unit {0}) RouteFault → Type 0
IsRefusedBy [] (Ok done) = Unit {0}
IsRefusedBy [] (Err reported) = reported ≡ Memory
IsRefusedBy (first ∷ others) result = result ≡ Err first

-- ---- what holds of every table

-- A valid row of a map. Its prefix has at most all bits, with none set after its length, and it
-- leads to a valid source.
pub record IsRealRow (family : AddressFamily) (row : Row) : Type 0 where
  pub bits : row.0.bits ≤ mask_length family
  pub prefix : IsAddress family row.0.address
  pub within : ends_within family row.0.bits row.0.address ≡ true
  pub to : IsAddress family row.1
  pub source : is_source family row.1 ≡ true

-- What holds of each map: at most `row_limit` rows, in order, each a valid row.
pub record IsRouteMap (family : AddressFamily) (rows : List Row) : Type 0 where
  pub limit : length rows ≤ row_limit
  pub ascending : AreInOrder rows
  pub real : AllByRecursion (IsRealRow family) rows

-- What holds of each table: both maps are valid, and each prefix that leads to an RP has groups
-- alone.
pub record IsRouteTable (family : AddressFamily) (table : RouteTable) : Type 0 where
  pub rps : IsRouteMap family table.rps
  pub groups : AllByRecursion (λ row. is_group_prefix family row.0 ≡ true) table.rps
  pub vias : IsRouteMap family table.vias
