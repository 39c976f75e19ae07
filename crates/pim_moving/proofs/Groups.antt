-- The groups of the messages of a change are group addresses.
use Rattle.std.proofs.Common.{◌≡◌, ℕ, Bool, true, false, List, [], ◌∷◌, ◌++◌, map, sym, subst, Option}
use Rattle.std.specs.List.{AllByRecursion, flat_map}
use Rattle.std.specs.declared.cmp.Ordering.{Ordering}
use Rattle.std.specs.declared.cmp.Ordering.TheVariants.{Less, Equal, Greater}
use Rattle.std.specs.Ordering.{nat_cmp}
use Rattle.std.specs.Cmp.Lexicographic.{slice_cmp}
use Rattle.pim_addr.specs.declared.family.AddressFamily.{AddressFamily}
use Rattle.pim_addr.specs.Address.{IsGroupAddress}
use Rattle.pim_jp.specs.Message.{GroupSet}
use Rattle.pim_form.specs.Merge.{by_order}
use Rattle.pim_form.specs.NormalForm.{GroupForm, IsNormalGroup, IsNormal, groups_of, same_address}
use Rattle.pim_form.specs.Settled.{group_in}
use Rattle.pim_change.specs.Change.{Action, ChangeUnit, about, group_change, inserted, in_order, change_at, change}
use Rattle.pim_change.specs.Written.{GroupActions, in_front, set_in_front, grouped, written_set, written_sets}

module _ {A : Type 0} (P : A → Type 0) where
  all_append : (xs ys : List A) → AllByRecursion P xs → AllByRecursion P ys → AllByRecursion P (xs ++ ys)
  all_append [] ys p q = q
  all_append (x ∷ xs) ys p q = (p.0, all_append xs ys p.1 q)

  all_front : (xs ys : List A) → AllByRecursion P (xs ++ ys) → AllByRecursion P xs
  all_front [] ys p = tt
  all_front (x ∷ xs) ys p = (p.0, all_front xs ys p.1)

  all_behind : (xs ys : List A) → AllByRecursion P (xs ++ ys) → AllByRecursion P ys
  all_behind [] ys p = p
  all_behind (x ∷ xs) ys p = all_behind xs ys p.1

  each_part : (parts : List (List A)) → AllByRecursion P (flat_map (λ part. part) parts) → AllByRecursion (AllByRecursion P) parts
  each_part [] p = tt
  each_part (part ∷ parts) p = (all_front part (flat_map (λ part. part) parts) p, each_part parts (all_behind part (flat_map (λ part. part) parts) p))

-- ---- the groups of two lists

module _ (P : List ℕ → Type 0) where
  all_inserted : (x : List ℕ) (xs : List (List ℕ)) → P x → AllByRecursion P xs → AllByRecursion P (inserted x xs)
  unfolding inserted
  all_inserted x [] p q = (p, tt)
  all_inserted x (y ∷ ys) p q = by (slice_cmp nat_cmp x y) (all_inserted x ys p q.1)
    where
      by : (o : Ordering) → AllByRecursion P (inserted x ys) → AllByRecursion P (by_order o (x ∷ y ∷ ys) (y ∷ ys) (y ∷ inserted x ys))
      by Less further = (p, q)
      by Equal further = q
      by Greater further = (q.0, further)

  all_in_order : (xs : List (List ℕ)) → AllByRecursion P xs → AllByRecursion P (in_order xs)
  unfolding in_order
  all_in_order [] q = q
  all_in_order (x ∷ xs) q = all_inserted x (in_order xs) q.0 (all_in_order xs q.1)

-- ---- the units of a change

module _ (family : AddressFamily) where
  abbrev pub OfGroup : ChangeUnit → Type 0
  OfGroup this = IsGroupAddress family this.group

  are_groups : (form : List GroupForm) → AllByRecursion (IsNormalGroup family) form → AllByRecursion (IsGroupAddress family) (groups_of form)
  are_groups [] are = tt
  are_groups (this ∷ form) are = (are.0.group, are_groups form are.1)

  about_group : (group : List ℕ) (actions : List Action) → IsGroupAddress family group → AllByRecursion OfGroup (about group actions)
  about_group group [] is = tt
  about_group group (telling ∷ actions) is = (is, about_group group actions is)

  units_are : (old new : List GroupForm) (groups : List (List ℕ)) → AllByRecursion (IsGroupAddress family) groups → AllByRecursion OfGroup (flat_map (change_at old new) groups)
  units_are old new [] are = tt
  units_are old new (group ∷ groups) are =
      all_append OfGroup (change_at old new group) (flat_map (change_at old new) groups) (about_group group (group_change (group_in group old) (group_in group new)) are.0) (units_are old new groups are.1)

  change_is : (old new : List GroupForm) → IsNormal family old → IsNormal family new → AllByRecursion OfGroup (change old new)
  unfolding change
  change_is old new of_old of_new =
      units_are old new (in_order (groups_of old ++ groups_of new)) (all_in_order (IsGroupAddress family) (groups_of old ++ groups_of new)
      (all_append (IsGroupAddress family) (groups_of old) (groups_of new) (are_groups old of_old.groups) (are_groups new of_new.groups)))

  pub runs_are : (old new : List GroupForm) (runs : List (List ChangeUnit)) → IsNormal family old → IsNormal family new → flat_map (λ run. run) runs ≡ change old new → AllByRecursion (AllByRecursion OfGroup) runs
  runs_are old new runs of_old of_new whole = each_part OfGroup runs (subst (AllByRecursion OfGroup) (sym whole) (change_is old new of_old of_new))

  -- ---- the group sets of a message

  abbrev HasGroup : GroupActions → Type 0
  HasGroup this = IsGroupAddress family this.group

  front_is : (this : ChangeUnit) (sets : List GroupActions) → OfGroup this → AllByRecursion HasGroup sets → AllByRecursion HasGroup (in_front this sets)
  front_is this [] is are = (is, tt)
  front_is this (first ∷ others) is are = by (same_address this.group first.group)
    where
      by : (b : Bool) → AllByRecursion HasGroup (set_in_front b this first others)
      by true = (is, are.1)
      by false = (is, are)

  grouped_are : (units : List ChangeUnit) → AllByRecursion OfGroup units → AllByRecursion HasGroup (grouped units)
  unfolding grouped
  grouped_are [] are = tt
  grouped_are (this ∷ units) are = front_is this (grouped units) are.0 (grouped_are units are.1)

  abbrev pub SetHasGroup : GroupSet → Type 0
  SetHasGroup set = IsGroupAddress family set.group

  told_are : (rps : List ℕ → Option (List ℕ)) (sets : List GroupActions) → AllByRecursion HasGroup sets → AllByRecursion SetHasGroup (map (written_set rps) sets)
  told_are rps [] are = tt
  told_are rps (this ∷ sets) are = (are.0, told_are rps sets are.1)

  pub sets_are : (rps : List ℕ → Option (List ℕ)) (run : List ChangeUnit) → AllByRecursion OfGroup run → AllByRecursion SetHasGroup (written_sets rps run)
  sets_are rps run are = told_are rps (grouped run) (grouped_are run are)
