-- The first group without an RP, slot by slot, and the Joins(*,G) of a message, set by set.
use Rattle.pim_merge.proofs.Words.{◌≡◌, ◌∙◌, ◌≤◌, ◌<◌, ◌+◌, ℕ, List, [], ◌∷◌, Option, None, Some, length, drop, get_or}
use Rattle.pim_merge.proofs.Words.{ap, sym, at_drop_more, at_drop_all, AddressFamily, RouteTable, GroupSet}
use Rattle.pim_merge.proofs.Words.{groups_after, groups_with, first_without_rp}
use Rattle.pim_merge.specs.Missing.{first_of, group_without_rp}

module _ (family : AddressFamily) (table : RouteTable) (groups : List (Option (List ℕ))) (i : ℕ) where
  step : (d : Option (List ℕ)) → i < length groups → (group : Option (List ℕ)) → group_without_rp family table (get_or groups i d) ≡ group
      → first_without_rp family table (drop i groups) ≡ first_of group (first_without_rp family table (drop (i + 1) groups))
  unfolding first_without_rp
  step d within group is =
      at_drop_more (first_without_rp family table) groups i d within ∙ ap (λ (g : Option (List ℕ)). first_of g (first_without_rp family table (drop (i + 1) groups))) is

  -- it is in this slot
  pub group_here : (group : List ℕ) (all : Option (List ℕ)) (d : Option (List ℕ)) → i < length groups → group_without_rp family table (get_or groups i d) ≡ Some group
      → first_without_rp family table (drop i groups) ≡ all → Some group ≡ all
  group_here group all d within is w = sym (step d within (Some group) is) ∙ w

  -- it is in a later one
  pub group_later : (all : Option (List ℕ)) (d : Option (List ℕ)) → i < length groups → group_without_rp family table (get_or groups i d) ≡ None
      → first_without_rp family table (drop i groups) ≡ all → first_without_rp family table (drop (i + 1) groups) ≡ all
  group_later all d within is w = sym (step d within None is) ∙ w

  -- there is none
  pub no_group : (all : Option (List ℕ)) → length groups ≤ i → first_without_rp family table (drop i groups) ≡ all → None ≡ all
  unfolding first_without_rp
  no_group all over w = sym (at_drop_all (first_without_rp family table) groups i over) ∙ w

-- one set more
pub set_added : (left later : List GroupSet) (set : GroupSet) (groups groups' all : List (Option (List ℕ))) → left ≡ set ∷ later → groups' ≡ groups_after groups set
    → groups_with left groups ≡ all → groups_with later groups' ≡ all
unfolding groups_with
set_added left later set groups groups' all more is w = ap (groups_with later) is ∙ sym (ap (λ l. groups_with l groups) more) ∙ w

-- no set is left
pub sets_added : (left : List GroupSet) (groups all : List (Option (List ℕ))) → left ≡ [] → groups_with left groups ≡ all → groups ≡ all
unfolding groups_with
sets_added left groups all none w = sym (ap (λ l. groups_with l groups) none) ∙ w
