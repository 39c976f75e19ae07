-- What local receivers have joined: stars of groups, and single sources. RFC 7761, 4.1.6, states it
-- by local_receiver_include.
use Rattle.std.specs.Prelude.{◌≡◌, ◌≤◌, ℕ, Bool, true, List, [], ◌∷◌, ◌++◌, length, not, ◌&&◌, nat_eq, nat_le}
use Rattle.std.specs.Prelude.{Option, Some, None, Result, Ok, Err, ⊤}
use Rattle.std.specs.Option.{option_eq, option_cmp}
use Rattle.std.specs.List.{AllByRecursion, list_any}
use Rattle.std.specs.List.Sorted.{IsStrictlySortedBy}
use Rattle.std.specs.declared.cmp.Ordering.{Ordering}
use Rattle.std.specs.Ordering.{nat_cmp, ordering_then, match_ordering}
use Rattle.std.specs.Cmp.Lexicographic.{slice_cmp, pointwise}
use Rattle.pim_addr.specs.Address.{is_group, is_source, IsGroupAddress, IsSourceAddress}
use Rattle.pim_addr.specs.Faults.{fault_if}
use Rattle.pim_addr.specs.declared.family.AddressFamily.{AddressFamily}
use Rattle.pim_local.specs.declared.fault.LocalFault.{LocalFault}
use Rattle.pim_local.specs.declared.fault.LocalFault.TheVariants.{Kind, Full, Memory}
use Rattle.pim_local.specs.declared.join.LocalJoin.{LocalJoin}

-- A join: of one source of a group, or without a source of all its sources.
abbrev pub Join : Type 0
Join = LocalJoin (List ℕ)

-- The join of all sources of this group.
abbrev pub star : List ℕ → Join
star group = record { group = group; source = None }

-- The join of this source of the group.
abbrev pub source_join : List ℕ → List ℕ → Join
source_join source group = record { group = group; source = Some source }

-- ---- lists of joins

-- Both are joins of the same group, and of the same source, or of all.
abbrev pub same_join : Join → Join → Bool
same_join this that = pointwise nat_eq this.group that.group && option_eq (pointwise nat_eq) this.source that.source

-- The join is in the list.
abbrev pub is_listed : Join → List Join → Bool
is_listed join joins = list_any (same_join join) joins

-- The join is one of this group.
abbrev pub of_group : List ℕ → Join → Bool
of_group group join = pointwise nat_eq group join.group

-- ---- joins are kept in one order

-- The order of joins: by the bytes of their groups; the star of a group before its sources, these by
-- their bytes.
unfoldable pub join_cmp : Join → Join → Ordering
join_cmp this that =
    ordering_then (slice_cmp nat_cmp this.group that.group) (option_cmp (slice_cmp nat_cmp) this.source that.source)

-- The joins ascend strictly in this order, so that none occurs twice.
abbrev pub AreInOrder : List Join → Type 0
AreInOrder joins = IsStrictlySortedBy join_cmp joins

-- The joins with this one, at its place in the order. One that is there isn't added again.
abbrev pub with_join : Join → List Join → List Join
with_join join [] = join ∷ []
with_join join (first ∷ others) =
    match_ordering (join_cmp join first) (join ∷ first ∷ others) (first ∷ others) (first ∷ with_join join others)

-- ---- faults

-- The source, if there is one, is a valid source.
abbrev pub is_valid_source : AddressFamily → Option (List ℕ) → Bool
is_valid_source family None = true
is_valid_source family (Some source) = is_source family source

-- The group is a multicast group, and the source, if there is one, a valid source.
abbrev pub is_valid : AddressFamily → Join → Bool
is_valid family join = is_group family join.group && is_valid_source family join.source

-- The greatest number of joins.
abbrev pub join_limit : ℕ
join_limit = 4096

-- All faults of adding this join to a list: it isn't valid, or it isn't there and the list is full.
abbrev pub join_faults : AddressFamily → Join → List Join → List LocalFault
join_faults family join joins =
    fault_if (not (is_valid family join)) Kind ++
    fault_if (not (is_listed join joins) && nat_le join_limit (length joins)) Full

-- The result of adding a join with these faults: the first fault where there is one, else Ok, or
-- Memory where memory runs out.
abbrev pub IsRefusedBy : List LocalFault → Result (Unit {0}) LocalFault → Type 0
IsRefusedBy [] (Ok done) = Unit {0}
IsRefusedBy [] (Err reported) = reported ≡ Memory
IsRefusedBy (first ∷ others) result = result ≡ Err first

-- ---- what holds of every list

-- The source, if there is one, is a valid source address.
abbrev pub IsValidSource : AddressFamily → Option (List ℕ) → Type 0
IsValidSource family None = ⊤
IsValidSource family (Some source) = IsSourceAddress family source

-- A valid join: of a group address, and of a valid source address if it has a source.
pub record IsValidJoin (family : AddressFamily) (join : Join) : Type 0 where
  pub group : IsGroupAddress family join.group
  pub source : IsValidSource family join.source

-- At most `join_limit` joins, in order, each valid.
pub record AreJoins (family : AddressFamily) (joins : List Join) : Type 0 where
  pub limit : length joins ≤ join_limit
  pub ascending : AreInOrder joins
  pub valid : AllByRecursion (IsValidJoin family) joins
