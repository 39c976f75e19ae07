-- The first of the records in key order that passes a test of its key.
use Rattle.pim_emit.proofs.Words.{◌≡◌, ◌∙◌, ℕ, Bool, true, false, List, [], ◌∷◌, None, Some, cond, refl, sym, ap, subst}
use Rattle.pim_emit.proofs.Words.{Less, Equal, is_lt, is_le, AllByRecursion, find, list_any, false≢true, or_left}
use Rattle.pim_emit.proofs.Words.{or_right, nat_cmp_total, tied_itself, Key, Machine, Record, rank, source_of, what_cmp}
use Rattle.pim_emit.proofs.Words.{key_cmp, same_key, KeysAreDistinct, IsBelow, IsAscending, machine_at}
use Rattle.pim_emit.proofs.Addresses.{itself}
use Rattle.pim_emit.proofs.Above.{found_here, found_later, some_found, by_test}

pub key_itself : (key : Key (List ℕ)) → key_cmp key key ≡ Equal
unfolding key_cmp what_cmp
key_itself key =
    rw (tied_itself nat_cmp_total key.port, itself key.group, tied_itself nat_cmp_total (rank key.what)) (itself (source_of key.what))

module _ (apart : KeysAreDistinct) where
  -- ---- the machine of a key

  below_at : (low key : Key (List ℕ)) (machine : Machine) (records : List (Record (List ℕ))) → IsBelow low records → machine_at key records ≡ Some machine → key_cmp low key ≡ Less
  unfolding IsBelow machine_at
  below_at low key machine [] below held = absurd cc
  below_at low key machine (first ∷ records) below held =
      by_test (same_key key first.key)
      (λ e. subst (λ (k : Key (List ℕ)). key_cmp low k ≡ Less) (sym ((apart key first.key).1.0 e)) below.0)
      (λ e. below_at low key machine records below.1 (subst (λ b. cond b (Some first.machine) (machine_at key records) ≡ Some machine) e held))

  -- what holds of all records holds of it
  pub held_at : (P : Record (List ℕ) → Type 0) (key : Key (List ℕ)) (machine : Machine) (records : List (Record (List ℕ))) → AllByRecursion P records
      → machine_at key records ≡ Some machine → P (record { key = key; machine = machine })
  unfolding machine_at
  held_at P key machine [] all held = absurd cc
  held_at P key machine (first ∷ records) all held =
      by_test (same_key key first.key)
      (λ e.
      let here : Some first.machine ≡ Some machine = subst (λ b. cond b (Some first.machine) (machine_at key records) ≡ Some machine) e held in
      let same : first.machine ≡ machine = cc in
      subst (λ (m : Machine). P (record { key = key; machine = m })) same
      (subst (λ (k : Key (List ℕ)). P (record { key = k; machine = first.machine })) (sym ((apart key first.key).1.0 e)) all.0))
      (λ e. held_at P key machine records all.1 (subst (λ b. cond b (Some first.machine) (machine_at key records) ≡ Some machine) e held))

  module _ (test : Key (List ℕ) → Bool) where
    abbrev pub passes : Record (List ℕ) → Bool
    passes held = test held.key

    -- a machine whose key passes is one of some record that does
    pub any_at : (key : Key (List ℕ)) (machine : Machine) (records : List (Record (List ℕ))) → machine_at key records ≡ Some machine → test key ≡ true → list_any passes records ≡ true
    unfolding machine_at
    any_at key machine [] held passed = absurd cc
    any_at key machine (first ∷ records) held passed =
        by_test (same_key key first.key)
        (λ e. or_left (test first.key) (list_any passes records) (subst (λ (k : Key (List ℕ)). test k ≡ true) ((apart key first.key).1.0 e) passed))
        (λ e. or_right (test first.key) (list_any passes records)
        (any_at key machine records (subst (λ b. cond b (Some first.machine) (machine_at key records) ≡ Some machine) e held) passed))

    pub none_at : (key : Key (List ℕ)) (machine : Machine) (records : List (Record (List ℕ))) → find passes records ≡ None → machine_at key records ≡ Some machine → test key ≡ false
    unfolding machine_at
    none_at key machine [] none held = absurd cc
    none_at key machine (first ∷ records) none held =
        by_test (test first.key)
        (λ t. absurd (some_found passes first records t none))
        (λ f. by_test (same_key key first.key)
        (λ e. subst (λ (k : Key (List ℕ)). test k ≡ false) (sym ((apart key first.key).1.0 e)) f)
        (λ e. none_at key machine records (found_later passes first records None f none) (subst (λ b. cond b (Some first.machine) (machine_at key records) ≡ Some machine) e held)))

    -- ---- the first that passes

    pub found_passes : (records : List (Record (List ℕ))) (found : Record (List ℕ)) → find passes records ≡ Some found → test found.key ≡ true
    found_passes [] found is = absurd cc
    found_passes (first ∷ records) found is =
        by_test (test first.key)
        (λ t. subst (λ (held : Record (List ℕ)). test held.key ≡ true) (found_here passes first records found t is) t)
        (λ f. found_passes records found (found_later passes first records (Some found) f is))

    found_above : (low : Key (List ℕ)) (records : List (Record (List ℕ))) (found : Record (List ℕ)) → IsBelow low records → find passes records ≡ Some found → key_cmp low found.key ≡ Less
    unfolding IsBelow
    found_above low [] found below is = absurd cc
    found_above low (first ∷ records) found below is =
        by_test (test first.key)
        (λ t. subst (λ (held : Record (List ℕ)). key_cmp low held.key ≡ Less) (found_here passes first records found t is) below.0)
        (λ f. found_above low records found below.1 (found_later passes first records (Some found) f is))

    pub found_is_held : (records : List (Record (List ℕ))) (found : Record (List ℕ)) → IsAscending records → find passes records ≡ Some found → machine_at found.key records ≡ Some found.machine
    unfolding IsAscending machine_at
    found_is_held [] found up is = absurd cc
    found_is_held (first ∷ records) found up is =
        by_test (test first.key)
        (λ t. subst (λ (held : Record (List ℕ)). cond (same_key held.key first.key) (Some first.machine) (machine_at held.key records) ≡ Some held.machine) (found_here passes first records found t is)
        (rw ((apart first.key first.key).1.1 refl) refl))
        (λ f.
        let later = found_later passes first records (Some found) f is in
        let less = found_above first.key records found up.0 later in
        by_test (same_key found.key first.key)
        (λ e. absurd (false≢true (sym (ap is_lt (subst (λ (k : Key (List ℕ)). key_cmp first.key k ≡ Equal) (sym ((apart found.key first.key).1.0 e)) (key_itself first.key))) ∙ ap is_lt less)))
        (λ e. rw e (found_is_held records found up.1 later)))

    -- no key that is held and passes comes before it
    pub found_is_first : (records : List (Record (List ℕ))) (found : Record (List ℕ)) (key : Key (List ℕ)) (machine : Machine) → IsAscending records → find passes records ≡ Some found
        → machine_at key records ≡ Some machine → test key ≡ true → is_le (key_cmp found.key key) ≡ true
    unfolding IsAscending machine_at
    found_is_first [] found key machine up is held passed = absurd cc
    found_is_first (first ∷ records) found key machine up is held passed =
        by_test (test first.key)
        (λ t. subst (λ (this : Record (List ℕ)). is_le (key_cmp this.key key) ≡ true) (found_here passes first records found t is)
        (by_test (same_key key first.key)
        (λ e. subst (λ (k : Key (List ℕ)). is_le (key_cmp first.key k) ≡ true) (sym ((apart key first.key).1.0 e)) (ap is_le (key_itself first.key)))
        (λ e. ap is_le (below_at first.key key machine records up.0 (subst (λ b. cond b (Some first.machine) (machine_at key records) ≡ Some machine) e held)))))
        (λ f. by_test (same_key key first.key)
        (λ e. absurd (false≢true (sym f ∙ subst (λ (k : Key (List ℕ)). test k ≡ true) ((apart key first.key).1.0 e) passed)))
        (λ e. found_is_first records found key machine up.1 (found_later passes first records (Some found) f is)
        (subst (λ b. cond b (Some first.machine) (machine_at key records) ≡ Some machine) e held) passed))
