-- Laws of route tables: the order in which rows are added does not matter, and tables with one row.
use Rattle.std.specs.Prelude.{◌≡◌, ℕ, true, List, [], ◌∷◌, Some, replicate}
use Rattle.pim_addr.specs.Address.{IsAddress, address_length, is_group}
use Rattle.pim_addr.specs.Routes.{Prefix, Row, RouteTable, AreInOrder, row_at, with_row, led_to, rp_of, via, group_bits}
use Rattle.pim_addr.specs.declared.family.AddressFamily.{AddressFamily}
use Rattle.pim_addr.specs.declared.family.AddressFamily.TheVariants.{Ipv4, Ipv6}

-- Adding a row sets its own prefix, changes no other prefix, and keeps the rows in order.
abbrev pub RowIsAddedAtItsPrefix : Type 0
RowIsAddedAtItsPrefix = (prefix : Prefix) (to : List ℕ) (rows : List Row) → AreInOrder rows →
    (row_at prefix (with_row prefix to rows) ≡ Some to)
    × ((other : Prefix) → (prefix ≡ other → ⊥) → row_at other (with_row prefix to rows) ≡ row_at other rows)
    × AreInOrder (with_row prefix to rows)

-- Two lists of rows in order that hold the same address for each prefix are equal.
abbrev pub RouteMapHasOneList : Type 0
RouteMapHasOneList = (one other : List Row) → AreInOrder one → AreInOrder other →
    ((prefix : Prefix) → row_at prefix one ≡ row_at prefix other) → one ≡ other

-- The rows of this list added to an empty map, from the last to the first.
abbrev pub with_rows : List Row → List Row
with_rows [] = []
with_rows (row ∷ rows) = with_row row.0 row.1 (with_rows rows)

-- Lists that hold the same address for each prefix, added in any order, give equal maps and equal
-- lookups.
abbrev pub OrderOfAddingIsFree : Type 0
OrderOfAddingIsFree = (one other : List Row) → ((prefix : Prefix) → row_at prefix one ≡ row_at prefix other) →
    (with_rows one ≡ with_rows other)
    × ((family : AddressFamily) (address : List ℕ) →
    led_to family address (with_rows one) ≡ led_to family address (with_rows other))

-- The first group address: 224.0.0.0 (RFC 5771, 3) or ff00:: (RFC 4291, 2.7).
abbrev pub first_group : AddressFamily → List ℕ
first_group Ipv4 = 224 ∷ 0 ∷ 0 ∷ 0 ∷ []
first_group Ipv6 = 255 ∷ replicate 15 0

-- The prefix of all groups: 224.0.0.0/4 or ff00::/8.
abbrev pub all_groups : AddressFamily → Prefix
all_groups family = record { bits = group_bits family; address = first_group family }

-- A table whose only row to an RP has the prefix of all groups leads each group to that RP.
abbrev pub OneRpForAllGroups : Type 0
OneRpForAllGroups = (family : AddressFamily) (rp group : List ℕ) (table : RouteTable) → IsAddress family group →
    is_group family group ≡ true → table.rps ≡ (all_groups family, rp) ∷ [] → rp_of family table group ≡ Some rp

-- The prefix of all addresses: 0.0.0.0/0 or ::/0.
abbrev pub all_addresses : AddressFamily → Prefix
all_addresses family = record { bits = 0; address = replicate (address_length family) 0 }

-- A table whose only row to a neighbour has the empty prefix leads each address to that neighbour.
abbrev pub OneNeighbourForAll : Type 0
OneNeighbourForAll = (family : AddressFamily) (neighbour address : List ℕ) (table : RouteTable) →
    IsAddress family address → table.vias ≡ (all_addresses family, neighbour) ∷ [] →
    via family address table ≡ Some neighbour
