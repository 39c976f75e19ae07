-- The normal form of a demand: a list of groups, each with the exceptions of its star and its
-- sources. A demand has at most one normal form.
use Rattle.std.specs.Prelude.{◌≡◌, ℕ, ◌≤◌, Bool, true, false, ◌&&◌, not, List, [], Option, None, Some, length, map}
use Rattle.std.specs.Prelude.{nat_eq}
use Rattle.std.specs.List.{AllByRecursion, list_any}
use Rattle.std.specs.List.Sorted.{IsStrictlySortedBy}
use Rattle.std.specs.Ordering.{nat_cmp}
use Rattle.std.specs.Cmp.Lexicographic.{slice_cmp, pointwise}
use Rattle.pim_addr.specs.declared.family.AddressFamily.{AddressFamily}
use Rattle.pim_addr.specs.Address.{IsGroupAddress, IsSourceAddress}
use Rattle.pim_form.specs.declared.tree.Tree.{Tree}
use Rattle.pim_form.specs.declared.tree.Tree.TheVariants.{Shared, Source}

-- What is wanted of one group. If it has a star, all sources but its exceptions are wanted on the
-- shared tree. Its listed sources are wanted on their own trees.
pub record GroupForm : Type 0 where
  pub group : List ℕ
  -- the exceptions of the star; `None` where the group has no star
  pub star : Option (List (List ℕ))
  pub sources : List (List ℕ)

-- ---- lists of addresses

-- The addresses are in strictly ascending order of their bytes.
abbrev pub AreAscending : List (List ℕ) → Type 0
AreAscending addresses = IsStrictlySortedBy (slice_cmp nat_cmp) addresses

-- Both addresses have the same bytes.
abbrev pub same_address : List ℕ → List ℕ → Bool
same_address = pointwise nat_eq

-- The address is in the list.
abbrev pub is_listed : List ℕ → List (List ℕ) → Bool
is_listed address addresses = list_any (same_address address) addresses

-- ---- normal forms

-- The most exceptions that a star of a normal form may have. Some valid source is always outside of
-- them, so that a demand has at most one normal form.
abbrev pub most_exceptions : ℕ
most_exceptions = 100000

-- The exceptions of a star are valid sources in strictly ascending order, within their limit.
abbrev pub AreExceptions : AddressFamily → Option (List (List ℕ)) → Type 0
AreExceptions family None = Unit {0}
AreExceptions family (Some exceptions) =
    AreAscending exceptions × AllByRecursion (IsSourceAddress family) exceptions × (length exceptions ≤ most_exceptions)

-- The group has neither a star nor a source.
abbrev pub is_empty : Option (List (List ℕ)) → List (List ℕ) → Bool
is_empty None [] = true
is_empty _ _ = false

-- A valid group address, its exceptions and its sources each valid and strictly ascending, and at
-- least a star or a source.
pub record IsNormalGroup (family : AddressFamily) (form : GroupForm) : Type 0 where
  pub group : IsGroupAddress family form.group
  pub exceptions : AreExceptions family form.star
  pub ascending : AreAscending form.sources
  pub sources : AllByRecursion (IsSourceAddress family) form.sources
  pub some : is_empty form.star form.sources ≡ false

-- The group addresses of a form, in order.
abbrev pub groups_of : List GroupForm → List (List ℕ)
groups_of form = map (λ group. group.group) form

-- The form is normal: its groups are normal and in strictly ascending order.
pub record IsNormal (family : AddressFamily) (form : List GroupForm) : Type 0 where
  pub ascending : AreAscending (groups_of form)
  pub groups : AllByRecursion (IsNormalGroup family) form

-- ---- what a form wants

-- The group has no star, or the source is an exception of its star.
abbrev pub is_excepted : List ℕ → Option (List (List ℕ)) → Bool
is_excepted source None = true
is_excepted source (Some exceptions) = is_listed source exceptions

-- A group wants a source on the shared tree if it has a star that doesn't except the source. It
-- wants a source on its own tree if it lists the source.
abbrev pub group_wants : GroupForm → List ℕ → Tree → Bool
group_wants form source Shared = not (is_excepted source form.star)
group_wants form source Source = is_listed source form.sources

-- What a form wants, as a demand.
abbrev pub form_wants : List GroupForm → List ℕ → List ℕ → Tree → Bool
form_wants form source group tree =
    list_any (λ this. same_address group this.group && group_wants this source tree) form

-- ---- demands

-- Which source of which group is wanted on which tree.
abbrev pub Demand : Type 0
Demand = List ℕ → List ℕ → Tree → Bool

-- Two demands agree on every valid source, every valid group and both trees.
abbrev pub Agree : AddressFamily → Demand → Demand → Type 0
Agree family one other = (source group : List ℕ) (tree : Tree) →
    IsSourceAddress family source → IsGroupAddress family group →
    one source group tree ≡ other source group tree

-- Two forms want the same.
abbrev pub WantTheSame : AddressFamily → List GroupForm → List GroupForm → Type 0
WantTheSame family one other = Agree family (form_wants one) (form_wants other)

-- The form is normal and wants exactly what is demanded, of valid sources and groups.
pub record IsFormOf (family : AddressFamily) (demand : Demand) (form : List GroupForm) : Type 0 where
  pub normal : IsNormal family form
  pub wants : Agree family demand (form_wants form)
