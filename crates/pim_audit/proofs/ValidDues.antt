-- The entries of a change between two normal forms have valid addresses.
use Rattle.pim_audit.proofs.Words.{◌≡◌, ℕ, Bool, true, false, cond, List, [], ◌∷◌, ◌++◌, Option, None, Some, map, refl, sym}
use Rattle.pim_audit.proofs.Words.{subst, AllByRecursion, filter, flat_map, nat_cmp, Less, Equal, Greater, append-nil}
use Rattle.pim_audit.proofs.Words.{AddressFamily, Event, JoinRpt, PruneRpt, JoinSource, PruneSource, source_entry}
use Rattle.pim_audit.proofs.Words.{due_entries}
use Rattle.pim_audit.proofs.ChangeOrder.{all_append, all_by, group_entries, entries_both, entries_of_sources, flat_twice}
use Rattle.std.specs.Cmp.Lexicographic.{slice_cmp}
use Rattle.pim_addr.specs.Address.{IsGroupAddress, IsSourceAddress}
use Rattle.pim_down.specs.Sound.{HasSource}
use Rattle.pim_form.specs.NormalForm.{GroupForm, AreExceptions, IsNormal, IsNormalGroup, same_address, groups_of}
use Rattle.pim_form.specs.Merge.{by_order}
use Rattle.pim_form.specs.Settled.{group_in}
use Rattle.pim_change.specs.declared.unit.ActionKind.{ActionKind}
use Rattle.pim_change.specs.Change.{Action, of_source, lacking, star_change, sources_change, group_change, change}
use Rattle.pim_change.specs.Change.{change_at, inserted, in_order}
use Rattle.pim_audit.specs.Sides.{IsEntry}

-- ---- what all of a list have

all_kept : {A : Type 0} (P : A → Type 0) (test : A → Bool) (xs : List A) → AllByRecursion P xs → AllByRecursion P (filter test xs)
all_kept P test [] all = tt
all_kept P test (x ∷ xs) all =
    elim (test x) as (λ b. AllByRecursion P (cond b (x ∷ filter test xs) (filter test xs))) [
      | true ↦ (all.0, all_kept P test xs all.1)
      | false ↦ all_kept P test xs all.1
    ]

all_inserted : (P : List ℕ → Type 0) (address : List ℕ) (xs : List (List ℕ)) → P address → AllByRecursion P xs
    → AllByRecursion P (inserted address xs)
unfolding inserted
all_inserted P address [] is all = (is, tt)
all_inserted P address (x ∷ xs) is all =
    elim (slice_cmp nat_cmp address x)
    as (λ o. AllByRecursion P (by_order o (address ∷ x ∷ xs) (x ∷ xs) (x ∷ inserted address xs))) [
      | Less ↦ (is, all)
      | Equal ↦ all
      | Greater ↦ (all.0, all_inserted P address xs is all.1)
    ]

all_in_order : (P : List ℕ → Type 0) (xs : List (List ℕ)) → AllByRecursion P xs → AllByRecursion P (in_order xs)
unfolding in_order
all_in_order P [] all = tt
all_in_order P (x ∷ xs) all = all_inserted P x (in_order xs) all.0 (all_in_order P xs all.1)

-- ---- the entries of one group

-- an entry of this group whose source is valid
pub record IsOf (family : AddressFamily) (group : List ℕ) (this : Event) : Type 0 where
  pub same : this.group ≡ group
  pub source : HasSource family this.what

module _ (family : AddressFamily) (group : List ℕ) where
  abbrev AreOf : List Event → Type 0
  AreOf entries = AllByRecursion (IsOf family group) entries

  source_of_group : (kind : ActionKind) (source : List ℕ) → IsSourceAddress family source
      → IsOf family group (source_entry group kind source)
  source_of_group JoinRpt source valid = record { same = refl; source = valid }
  source_of_group PruneRpt source valid = record { same = refl; source = valid }
  source_of_group JoinSource source valid = record { same = refl; source = valid }
  source_of_group PruneSource source valid = record { same = refl; source = valid }

  sources_of_group : (kind : ActionKind) (sources : List (List ℕ)) → AllByRecursion (IsSourceAddress family) sources
      → AreOf (map (source_entry group kind) sources)
  sources_of_group kind [] valid = tt
  sources_of_group kind (source ∷ sources) valid = (source_of_group kind source valid.0, sources_of_group kind sources valid.1)

  some_of_group : (kind : ActionKind) (one other : List (List ℕ)) → AllByRecursion (IsSourceAddress family) one
      → AreOf (group_entries group (map (of_source kind) (lacking one other)))
  some_of_group kind one other valid = subst AreOf (sym (entries_of_sources group kind (lacking one other)))
      (sources_of_group kind (lacking one other) (all_kept (IsSourceAddress family) _ one valid))

  both_of_group : (xs ys : List Action) → AreOf (group_entries group xs) → AreOf (group_entries group ys)
      → AreOf (group_entries group (xs ++ ys))
  both_of_group xs ys all others = subst AreOf (sym (entries_both group xs ys))
      (all_append (IsOf family group) (group_entries group xs) (group_entries group ys) all others)

  star_of_group : (old new : Option (List (List ℕ))) → AreExceptions family old → AreExceptions family new
      → AreOf (group_entries group (star_change old new))
  star_of_group None None are are' = tt
  star_of_group None (Some exceptions) are are' = (
    record { same = refl; source = tt },
    subst AreOf (sym (append-nil (map (source_entry group PruneRpt) exceptions))) (sources_of_group PruneRpt exceptions are'.1),
  )
  star_of_group (Some excepted) None are are' = (record { same = refl; source = tt }, tt)
  star_of_group (Some excepted) (Some exceptions) are are' =
      both_of_group (map (of_source JoinRpt) (lacking excepted exceptions))
      (map (of_source PruneRpt) (lacking exceptions excepted))
      (some_of_group JoinRpt excepted exceptions are.1) (some_of_group PruneRpt exceptions excepted are'.1)

-- the exceptions and the sources of a group are valid
pub record IsGroupValid (family : AddressFamily) (this : GroupForm) : Type 0 where
  pub exceptions : AreExceptions family this.star
  pub sources : AllByRecursion (IsSourceAddress family) this.sources

pub group_in_valid : (family : AddressFamily) (group : List ℕ) (form : List GroupForm)
    → AllByRecursion (IsNormalGroup family) form → IsGroupValid family (group_in group form)
unfolding group_in
group_in_valid family group [] normal = record { exceptions = tt; sources = tt }
group_in_valid family group (this ∷ form) normal =
    elim (same_address group this.group) as (λ b. IsGroupValid family (cond b this (group_in group form))) [
      | true ↦ record { exceptions = normal.0.exceptions; sources = normal.0.sources }
      | false ↦ group_in_valid family group form normal.1
    ]

-- ---- all groups

groups_valid : (family : AddressFamily) (form : List GroupForm) → AllByRecursion (IsNormalGroup family) form
    → AllByRecursion (IsGroupAddress family) (groups_of form)
groups_valid family [] normal = tt
groups_valid family (this ∷ form) normal = (normal.0.group, groups_valid family form normal.1)

-- the entries of a group in the change between two forms
abbrev pub part_at : List GroupForm → List GroupForm → List ℕ → List Event
part_at old new group = group_entries group (group_change (group_in group old) (group_in group new))

module _ (family : AddressFamily) (old new : List GroupForm) (of_old : IsNormal family old) (of_new : IsNormal family new) where
  pub part_of_group : (group : List ℕ) → AllByRecursion (IsOf family group) (part_at old new group)
  part_of_group group =
      let was = group_in_valid family group old of_old.groups in
      let is = group_in_valid family group new of_new.groups in
      let before = group_in group old in
      let now = group_in group new in
      both_of_group family group (star_change before.star now.star) (sources_change before.sources now.sources)
      (star_of_group family group before.star now.star was.exceptions is.exceptions)
      (both_of_group family group (map (of_source JoinSource) (lacking now.sources before.sources))
      (map (of_source PruneSource) (lacking before.sources now.sources))
      (some_of_group family group JoinSource now.sources before.sources is.sources)
      (some_of_group family group PruneSource before.sources now.sources was.sources))

  parts_are_entries : (groups : List (List ℕ)) → AllByRecursion (IsGroupAddress family) groups
      → AllByRecursion (IsEntry family) (flat_map (part_at old new) groups)
  parts_are_entries [] valid = tt
  parts_are_entries (group ∷ groups) valid =
      all_append (IsEntry family) (part_at old new group) (flat_map (part_at old new) groups)
      (all_by (IsOf family group) (IsEntry family)
      (λ this is. record { group = subst (IsGroupAddress family) (sym is.same) valid.0; source = is.source })
      (part_at old new group) (part_of_group group))
      (parts_are_entries groups valid.1)

-- what is due between two normal forms has valid addresses
pub dues_are_entries : (family : AddressFamily) (old new : List GroupForm) → IsNormal family old → IsNormal family new
    → AllByRecursion (IsEntry family) (due_entries old new)
unfolding change
dues_are_entries family old new of_old of_new =
    let groups : List (List ℕ) = in_order (groups_of old ++ groups_of new) in
    subst (AllByRecursion (IsEntry family)) (sym (flat_twice (change_at old new) groups))
    (parts_are_entries family old new of_old of_new groups
    (all_in_order (IsGroupAddress family) (groups_of old ++ groups_of new)
    (all_append (IsGroupAddress family) (groups_of old) (groups_of new)
    (groups_valid family old of_old.groups) (groups_valid family new of_new.groups))))
