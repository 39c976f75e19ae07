-- The next group of a port is the least above the bound that has a record on it.
use Rattle.pim_emit.proofs.Words.{◌≡◌, ◌∙◌, ℕ, Bool, true, false, ◌&&◌, ◌||◌, List, [], ◌∷◌, Option, None, Some, refl, sym, ap}
use Rattle.pim_emit.proofs.Words.{subst, Ordering, Less, Equal, Greater, nat_cmp, is_le, ordering_then, find, list_any, eqb-true}
use Rattle.pim_emit.proofs.Words.{and_parts, and_from, or_left, or_right, nat_cmp_total, tied_itself, is_above, is_of_group_after}
use Rattle.pim_emit.proofs.Words.{group_after, Key, Record, address_cmp, what_cmp, key_cmp, IsBelow, IsAscending, is_on}
use Rattle.pim_emit.proofs.Words.{Downstream, same_address, IsLeast, has_group}
use Rattle.pim_emit.proofs.Addresses.{same_is, same_itself}
use Rattle.pim_emit.proofs.Above.{by_test, found_here, found_later, some_found}
use Rattle.pim_emit.proofs.FirstRecords.{key_itself}

module _ (test other : Record (List ℕ) → Bool) where
  -- what is found is one of them
  any_found : (records : List (Record (List ℕ))) (found : Record (List ℕ)) → find test records ≡ Some found → other found ≡ true → list_any other records ≡ true
  any_found [] found is passes = absurd cc
  any_found (first ∷ records) found is passes =
      by_test (test first)
      (λ t. or_left (other first) (list_any other records) (subst (λ (held : Record (List ℕ)). other held ≡ true) (sym (found_here test first records found t is)) passes))
      (λ f. or_right (other first) (list_any other records) (any_found records found (found_later test first records (Some found) f is) passes))

  found_passes : (records : List (Record (List ℕ))) (found : Record (List ℕ)) → find test records ≡ Some found → test found ≡ true
  found_passes [] found is = absurd cc
  found_passes (first ∷ records) found is =
      by_test (test first)
      (λ t. subst (λ (held : Record (List ℕ)). test held ≡ true) (found_here test first records found t is) t)
      (λ f. found_passes records found (found_later test first records (Some found) f is))

  any_below : (low : Key (List ℕ)) (records : List (Record (List ℕ))) → IsBelow low records → list_any other records ≡ true
      → (held : Record (List ℕ)) × (other held ≡ true) × (key_cmp low held.key ≡ Less)
  unfolding IsBelow
  any_below low [] below any = absurd cc
  any_below low (first ∷ records) below any =
      by_test (other first)
      (λ t. (first, t, below.0))
      (λ f. any_below low records below.1 (subst (λ b. b || list_any other records ≡ true) f any))

  module _ (narrower : (held : Record (List ℕ)) → other held ≡ true → test held ≡ true) where
    none_found : (records : List (Record (List ℕ))) → find test records ≡ None → list_any other records ≡ false
    none_found [] none = refl
    none_found (first ∷ records) none =
        by_test (other first)
        (λ t. absurd (some_found test first records (narrower first t) none))
        (λ f. by_test (test first)
        (λ t. absurd (some_found test first records t none))
        (λ e. rw f (none_found records (found_later test first records None e none))))

    -- one of them stands where the first was found, or behind it
    any_behind : (records : List (Record (List ℕ))) (found : Record (List ℕ)) → IsAscending records → find test records ≡ Some found → list_any other records ≡ true
        → (held : Record (List ℕ)) × (other held ≡ true) × (is_le (key_cmp found.key held.key) ≡ true)
    unfolding IsAscending
    any_behind [] found up is any = absurd cc
    any_behind (first ∷ records) found up is any =
        by_test (other first)
        (λ t. (first, t, subst (λ (this : Record (List ℕ)). is_le (key_cmp this.key first.key) ≡ true) (found_here test first records found (narrower first t) is) (ap is_le (key_itself first.key))))
        (λ f.
        let behind : list_any other records ≡ true = subst (λ b. b || list_any other records ≡ true) f any in
        by_test (test first)
        (λ t.
        let held = any_below first.key records up.0 behind in
        (held.0, held.1, subst (λ (this : Record (List ℕ)). is_le (key_cmp this.key held.0.key) ≡ true) (found_here test first records found t is) (ap is_le held.2)))
        (λ e. any_behind records found up.1 (found_later test first records (Some found) e is) behind))

-- ---- groups

front_up_to : (r s : Ordering) → is_le (ordering_then r s) ≡ true → is_le r ≡ true
front_up_to Less s h = refl
front_up_to Equal s h = refl
front_up_to Greater s h = h

by_group : (a b : Key (List ℕ)) → a.port ≡ b.port → is_le (key_cmp a b) ≡ true → is_le (address_cmp a.group b.group) ≡ true
unfolding key_cmp
by_group a b same le =
    let front = front_up_to (ordering_then (nat_cmp a.port b.port) (address_cmp a.group b.group)) (what_cmp a.what b.what) le in
    subst (λ r. is_le (ordering_then r (address_cmp a.group b.group)) ≡ true) (subst (λ n. nat_cmp a.port n ≡ Equal) same (tied_itself nat_cmp_total a.port)) front

module _ (state : Downstream) (up : IsAscending state.records) (port : ℕ) (bound : Option (List ℕ)) where
  abbrev of_group : List ℕ → Record (List ℕ) → Bool
  of_group group held = is_on port held && same_address group held.key.group

  abbrev over_bound : List ℕ → Bool
  over_bound group = is_above bound group && has_group state group port

  narrower : (group : List ℕ) → is_above bound group ≡ true → (held : Record (List ℕ)) → of_group group held ≡ true → is_of_group_after port bound held ≡ true
  narrower group above held is =
      let parts = and_parts (is_on port held) (same_address group held.key.group) is in
      and_from (is_on port held) (is_above bound held.key.group) parts.0 (subst (λ (a : List ℕ). is_above bound a ≡ true) (same_is group held.key.group parts.1) above)

  pub group_is_next : IsLeast over_bound (group_after port bound state.records)
  group_is_next = by (find (is_of_group_after port bound) state.records) refl
    where
      by : (r : Option (Record (List ℕ))) → find (is_of_group_after port bound) state.records ≡ r → IsLeast over_bound (group_after port bound state.records)
      by None none = rw none (λ group.
          by_test (is_above bound group)
          (λ above. rw above (none_found (is_of_group_after port bound) (of_group group) (narrower group above) state.records none))
          (λ e. rw e refl))
      by (Some found) is =
          let parts = and_parts (is_on port found) (is_above bound found.key.group) (found_passes (is_of_group_after port bound) (of_group found.key.group) state.records found is) in
          rw is (
            and_from (is_above bound found.key.group) (has_group state found.key.group port) parts.1
                (any_found (is_of_group_after port bound) (of_group found.key.group) state.records found is (and_from (is_on port found) (same_address found.key.group found.key.group) parts.0 (same_itself found.key.group))),
            λ group passes.
                let split = and_parts (is_above bound group) (has_group state group port) passes in
                let held = any_behind (is_of_group_after port bound) (of_group group) (narrower group split.0) state.records found up is split.1 in
                let mine = and_parts (is_on port held.0) (same_address group held.0.key.group) held.1 in
                subst (λ (a : List ℕ). is_le (address_cmp found.key.group a) ≡ true) (sym (same_is group held.0.key.group mine.1))
                (by_group found.key held.0.key (eqb-true found.key.port port parts.0 ∙ sym (eqb-true held.0.key.port port mine.0)) held.2),
          )
