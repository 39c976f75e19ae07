-- The lesser of two least addresses is the least of what either test passes.
use Rattle.pim_emit.proofs.Words.{◌≡◌, ◌∙◌, ℕ, Bool, true, false, ◌||◌, List, Option, None, Some, refl, sym, ap, subst}
use Rattle.pim_emit.proofs.Words.{Ordering, Less, Equal, Greater, is_lt, is_le, ordering_reverse, false≢true, or_left}
use Rattle.pim_emit.proofs.Words.{or_right, address_cmp, IsLeast}
use Rattle.pim_emit.proofs.Addresses.{equal_is, back, less_trans}
use Rattle.pim_emit.proofs.Above.{by_test}

-- ---- up to

pub up_to_trans : (a b c : List ℕ) → is_le (address_cmp a b) ≡ true → is_le (address_cmp b c) ≡ true → is_le (address_cmp a c) ≡ true
up_to_trans a b c ab bc = from (address_cmp a b) (address_cmp b c) refl refl
  where
    from : (r s : Ordering) → address_cmp a b ≡ r → address_cmp b c ≡ s → is_le (address_cmp a c) ≡ true
    from Less Less e f = ap is_le (less_trans a b c e f)
    from Less Equal e f = subst (λ (d : List ℕ). is_le (address_cmp a d) ≡ true) (equal_is b c f) ab
    from Less Greater e f = absurd (false≢true (sym (ap is_le f) ∙ bc))
    from Equal s e f = subst (λ (d : List ℕ). is_le (address_cmp d c) ≡ true) (sym (equal_is a b e)) bc
    from Greater s e f = absurd (false≢true (sym (ap is_le e) ∙ ab))

-- an address that isn't below another one is up to by it
not_below : (a b : List ℕ) → is_lt (address_cmp b a) ≡ false → is_le (address_cmp a b) ≡ true
not_below a b h = from (address_cmp b a) refl
  where
    from : (r : Ordering) → address_cmp b a ≡ r → is_le (address_cmp a b) ≡ true
    from Less e = absurd (false≢true (sym h ∙ ap is_lt e))
    from Equal e = ap is_le (back b a ∙ ap ordering_reverse e)
    from Greater e = ap is_le (back b a ∙ ap ordering_reverse e)

less_up_to : (a b : List ℕ) → is_lt (address_cmp a b) ≡ true → is_le (address_cmp a b) ≡ true
less_up_to a b h = from (address_cmp a b) refl
  where
    from : (r : Ordering) → address_cmp a b ≡ r → is_le (address_cmp a b) ≡ true
    from Less e = ap is_le e
    from Equal e = absurd (false≢true (sym (ap is_lt e) ∙ h))
    from Greater e = absurd (false≢true (sym (ap is_lt e) ∙ h))

-- ---- two that are least

module _ (test this : List ℕ → Bool) (one other : List ℕ) where
  pub other_is_least : IsLeast test (Some one) → IsLeast this (Some other) → is_lt (address_cmp other one) ≡ true → IsLeast (λ address. this address || test address) (Some other)
  other_is_least t h less = (
    or_left (this other) (test other) h.0,
    λ address passes.
        by_test (this address)
        (λ e. h.1 address e)
        (λ e. up_to_trans other one address (less_up_to other one less) (t.1 address (subst (λ b. b || test address ≡ true) e passes))),
  )

  pub one_is_least : IsLeast test (Some one) → IsLeast this (Some other) → is_lt (address_cmp other one) ≡ false → IsLeast (λ address. this address || test address) (Some one)
  one_is_least t h beyond = (
    or_right (this one) (test one) t.0,
    λ address passes.
        by_test (this address)
        (λ e. up_to_trans one other address (not_below one other beyond) (h.1 address e))
        (λ e. t.1 address (subst (λ b. b || test address ≡ true) e passes)),
  )

-- ---- tests that agree

pub least_of_same : (test this : List ℕ → Bool) (least : Option (List ℕ)) → ((address : List ℕ) → test address ≡ this address) → IsLeast test least → IsLeast this least
least_of_same test this None same is = λ address. sym (same address) ∙ is address
least_of_same test this (Some least) same is = (sym (same least) ∙ is.0, λ address passes. is.1 address (same address ∙ passes))
