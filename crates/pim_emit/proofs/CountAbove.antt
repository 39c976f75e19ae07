-- How many of some items have an address above a bound: fewer, where the bound rises to the address of one of them.
use Rattle.pim_emit.proofs.Words.{◌≡◌, ℕ, suc, ◌<◌, ◌≤◌, true, false, ◌||◌, List, [], ◌∷◌, Option, Some, length, ap}
use Rattle.pim_emit.proofs.Words.{subst, arith, filter, list_any, false≢true, is_above, address_cmp, same_address}
use Rattle.pim_emit.proofs.Addresses.{same_is, lt_less, above_less, not_above_itself}
use Rattle.pim_emit.proofs.Above.{is_over, by_test, kept_here, dropped_here}

module _ {A : Type 0} (address_of : A → List ℕ) where
  abbrev pub count_above : Option (List ℕ) → List A → ℕ
  count_above bound items = length (filter (is_over address_of bound) items)

  kept : (bound : Option (List ℕ)) (x : A) (xs : List A) → is_above bound (address_of x) ≡ true → count_above bound (x ∷ xs) ≡ suc (count_above bound xs)
  kept bound x xs e = ap length (kept_here (is_over address_of bound) x xs e)

  dropped : (bound : Option (List ℕ)) (x : A) (xs : List A) → is_above bound (address_of x) ≡ false → count_above bound (x ∷ xs) ≡ count_above bound xs
  dropped bound x xs e = ap length (dropped_here (is_over address_of bound) x xs e)

  no_more : (bound : Option (List ℕ)) (x : A) (xs : List A) → count_above bound xs ≤ count_above bound (x ∷ xs)
  no_more bound x xs =
      by_test (is_above bound (address_of x))
      (λ e. omega (arith, kept bound x xs e))
      (λ e. omega (arith, dropped bound x xs e))

  higher_over : (bound : Option (List ℕ)) (address : List ℕ) → is_above bound address ≡ true → (x : A) → is_above (Some address) (address_of x) ≡ true → is_above bound (address_of x) ≡ true
  higher_over bound address above x e = above_less bound address (address_of x) above (lt_less (address_cmp address (address_of x)) e)

  not_more : (bound : Option (List ℕ)) (address : List ℕ) (xs : List A) → is_above bound address ≡ true → count_above (Some address) xs ≤ count_above bound xs
  not_more bound address [] above = omega arith
  not_more bound address (x ∷ xs) above =
      let others = not_more bound address xs above in
      by_test (is_above (Some address) (address_of x))
      (λ e. omega (arith, others, kept (Some address) x xs e, kept bound x xs (higher_over bound address above x e)))
      (λ e. omega (arith, others, dropped (Some address) x xs e, no_more bound x xs))

  pub fewer_above : (bound : Option (List ℕ)) (address : List ℕ) (xs : List A) → is_above bound address ≡ true → list_any (λ x. same_address address (address_of x)) xs ≡ true
      → count_above (Some address) xs < count_above bound xs
  fewer_above bound address [] above any = absurd (false≢true any)
  fewer_above bound address (x ∷ xs) above any =
      by_test (same_address address (address_of x))
      (λ e.
      let same = same_is address (address_of x) e in
      let gone : is_above (Some address) (address_of x) ≡ false = subst (λ (a : List ℕ). is_above (Some address) a ≡ false) same (not_above_itself address) in
      let had : is_above bound (address_of x) ≡ true = subst (λ (a : List ℕ). is_above bound a ≡ true) same above in
      omega (arith, not_more bound address xs above, dropped (Some address) x xs gone, kept bound x xs had))
      (λ d.
      let others = fewer_above bound address xs above (subst (λ b. b || list_any (λ y. same_address address (address_of y)) xs ≡ true) d any) in
      by_test (is_above (Some address) (address_of x))
      (λ e. omega (arith, others, kept (Some address) x xs e, kept bound x xs (higher_over bound address above x e)))
      (λ e. omega (arith, others, dropped (Some address) x xs e, no_more bound x xs)))
