-- So many (S,G,rpt) machines of a group are at most those of the port, whatever their groups.
use Rattle.pim_emit.proofs.Words.{◌≡◌, ◌∙◌, ℕ, ◌≤◌, Bool, true, false, ◌&&◌, ◌||◌, List, [], ◌∷◌, Option, None, Some}
use Rattle.pim_emit.proofs.Words.{length, eqb, refl, ap, subst, arith, Less, AllByRecursion, filter, list_any}
use Rattle.pim_emit.proofs.Words.{IsStrictlySortedBy, is_lt, false≢true, and_from, eqb-false, or_left, or_right, Key}
use Rattle.pim_emit.proofs.Words.{Rpt, Record, is_above, is_rpt_on, rpt_count_on, address_cmp, source_of}
use Rattle.pim_emit.proofs.Words.{KeysAreDistinct, machine_at, Downstream, AreAscending, same_address, has_rpt}
use Rattle.pim_emit.proofs.Addresses.{same_itself}
use Rattle.pim_emit.proofs.Above.{is_over, by_test, kept_here, dropped_here}
use Rattle.pim_emit.proofs.CountAbove.{count_above, fewer_above}
use Rattle.pim_emit.proofs.FirstRecords.{any_at}
use Rattle.pim_emit.proofs.ListedAbove.{AllPass}
use Rattle.pim_emit.proofs.NextMachines.{key_of, told_state}

module _ {A : Type 0} (this test : A → Bool) where
  later : (x : A) (xs : List A) → this x ≡ true → test x ≡ false → list_any (λ y. this y && test y) (x ∷ xs) ≡ true → list_any (λ y. this y && test y) xs ≡ true
  later x xs e f any =
      subst (λ b. (true && b) || list_any (λ y. this y && test y) xs ≡ true) f
      (subst (λ b. (b && test x) || list_any (λ y. this y && test y) xs ≡ true) e any)

  -- one that passes both is one of those that are kept
  any_kept : (xs : List A) → list_any (λ x. this x && test x) xs ≡ true → list_any test (filter this xs) ≡ true
  any_kept [] any = absurd (false≢true any)
  any_kept (x ∷ xs) any =
      by_test (this x)
      (λ e. ap (list_any test) (kept_here this x xs e)
      ∙ by_test (test x)
      (λ t. or_left (test x) (list_any test (filter this xs)) t)
      (λ f. or_right (test x) (list_any test (filter this xs)) (any_kept xs (later x xs e f any))))
      (λ e. ap (list_any test) (dropped_here this x xs e) ∙ any_kept xs (subst (λ b. (b && test x) || list_any (λ y. this y && test y) xs ≡ true) e any))

at_most_all : {A : Type 0} (address_of : A → List ℕ) (bound : Option (List ℕ)) (xs : List A) → count_above address_of bound xs ≤ length xs
at_most_all address_of bound [] = omega arith
at_most_all address_of bound (x ∷ xs) =
    let rest = at_most_all address_of bound xs in
    by_test (is_above bound (address_of x))
    (λ e. omega (arith, rest, ap length (kept_here (is_over address_of bound) x xs e)))
    (λ e. omega (arith, rest, ap length (dropped_here (is_over address_of bound) x xs e)))

all_above : (low : List ℕ) (xs : List (List ℕ)) → AllByRecursion (λ other. address_cmp low other ≡ Less) xs → AllPass (is_above (Some low)) xs
all_above low [] behind = tt
all_above low (x ∷ xs) behind = (ap is_lt behind.0, all_above low xs behind.1)

above_nothing : (xs : List (List ℕ)) → AllPass (is_above None) xs
above_nothing [] = tt
above_nothing (x ∷ xs) = (refl, above_nothing xs)

module _ (apart : KeysAreDistinct) (state : Downstream) (port : ℕ) (group : List ℕ) where
  abbrev source : Record (List ℕ) → List ℕ
  source held = source_of held.key.what

  abbrev on_port : Record (List ℕ) → Bool
  on_port held = is_rpt_on port held.key

  same_port : eqb port port ≡ true
  same_port = by_test (eqb port port) (λ e. e) (λ e. absurd (eqb-false port port e refl))

  is_one : (address : List ℕ) → has_rpt state port group address ≡ true → list_any (λ held. same_address address (source held)) (filter on_port state.records) ≡ true
  is_one address is =
      let held = told_state (machine_at (key_of port group (Rpt address)) state.records) is in
      any_kept on_port (λ held. same_address address (source held)) state.records
      (any_at apart (λ (key : Key (List ℕ)). is_rpt_on port key && same_address address (source_of key.what)) (key_of port group (Rpt address)) held.0 state.records held.1
      (and_from (is_rpt_on port (key_of port group (Rpt address))) (same_address address address) (and_from (eqb port port) true same_port refl) (same_itself address)))

  at_most : (bound : Option (List ℕ)) (xs : List (List ℕ)) → AreAscending xs → AllPass (is_above bound) xs → AllPass (has_rpt state port group) xs
      → length xs ≤ count_above source bound (filter on_port state.records)
  unfolding IsStrictlySortedBy
  at_most bound [] up over held = omega arith
  at_most bound (x ∷ xs) up over held =
      let rest = at_most (Some x) xs up.1 (all_above x xs up.0) held.1 in
      let fewer = fewer_above source bound x (filter on_port state.records) over.0 (is_one x held.0) in
      omega (arith, rest, fewer)

  pub few_held : (xs : List (List ℕ)) → AreAscending xs → AllPass (has_rpt state port group) xs → length xs ≤ rpt_count_on port state.records
  few_held xs up held =
      let over = at_most None xs up (above_nothing xs) held in
      omega (arith, over, at_most_all source None (filter on_port state.records))
