-- Ranges of addresses: how many end before a number, with one more end, and with a row that answers in some of them.
use Rattle.pim_addr.proofs.Words.{◌≡◌, ℕ, zero, suc, ◌<◌, ◌≤◌, ◌⊎◌, inl, inr, Bool, true, false, cond, List, [], ◌∷◌}
use Rattle.pim_addr.proofs.Words.{length, map, get_or, refl, sym, ap, ◌∙◌, arith, nat_lt, add-one, IsSorted}
use Rattle.pim_addr.proofs.Words.{IsPartitionPoint, nat_cmp, is_lt, Ordering, Equal, Greater, ◌↔◌, false≢true, cases_lt}
use Rattle.pim_addr.proofs.Words.{lt-ltb, le-ltb, length-map, get_or_default, prefix_len_is, Rises, before}
use Rattle.std.proofs.lemmas.List.{get_or-map as get_or_of_map}

-- ---- numbers of a family

compared : (a b : ℕ) → is_lt (nat_cmp a b) ≡ nat_lt a b
compared a b = by (cases_lt a b)
  where
    other : (t : Bool) → is_lt (cond t Equal Greater) ≡ false
    other true = refl
    other false = refl

    by : (a < b) ⊎ (b ≤ a) → is_lt (nat_cmp a b) ≡ nat_lt a b
    by (inl l) = rw (lt-ltb a b l) refl
    by (inr l) = rw (le-ltb a b l) (other _)

module _ {N : Type 0} (value_of : N → ℕ) (cmp : N → N → Ordering) (order : (a b : N) → cmp a b ≡ nat_cmp (value_of a) (value_of b)) where
  up : (least : ℕ) (ends : List N) → Rises least (map value_of ends) → (k : ℕ) (d : N) → suc k < length ends → value_of (get_or ends k d) < value_of (get_or ends (suc k) d)
  up least [] h k d l = absurd (omega arith)
  up least (e ∷ []) h k d l = absurd (omega arith)
  up least (e ∷ f ∷ ends) h zero d l = omega (arith, h.1.0)
  up least (e ∷ f ∷ ends) h (suc k) d l = up (suc (value_of e)) (f ∷ ends) h.1 k d (omega arith)

  pub sorted : (least : ℕ) (ends : List N) → Rises least (map value_of ends) → IsSorted cmp ends
  sorted least ends h k d low high =
      let rises : value_of (get_or ends k d) < value_of (get_or ends (suc k) d) = up least ends h k d (omega (arith, high)) in
      ap (λ i. is_lt (cmp (get_or ends i d) (get_or ends k d))) (add-one k)
      ∙ ap is_lt (order (get_or ends (suc k) d) (get_or ends k d)) ∙ compared (value_of (get_or ends (suc k) d)) (value_of (get_or ends k d))
      ∙ le-ltb (value_of (get_or ends (suc k) d)) (value_of (get_or ends k d)) (omega (arith, rises))

  pub counted : (ends : List N) (number : N) (place : ℕ) → place ≤ length ends →
      IsPartitionPoint (λ other. is_lt (cmp other number) ≡ true) (λ other. is_lt (cmp other number) ≡ false) ends place → place ≡ before (value_of number) (map value_of ends)
  unfolding before
  counted ends number place within part =
      sym (prefix_len_is (λ end. nat_lt end (value_of number)) (map value_of ends) place (value_of number) (omega (arith, length-map ends value_of))
      (λ k l. reported k (omega arith) ∙ part.0 k number (omega arith) l)
      (λ l. reported place (omega (arith, l, length-map ends value_of)) ∙ part.1 place number (omega arith) (omega (arith, l, length-map ends value_of))))
    where
      reported : (k : ℕ) → k < length ends → nat_lt (get_or (map value_of ends) k (value_of number)) (value_of number) ≡ is_lt (cmp (get_or ends k number) number)
      reported k l = ap (λ n. nat_lt n (value_of number)) (get_or_of_map value_of ends k number (value_of number) l) ∙ sym (compared _ _) ∙ sym (ap is_lt (order (get_or ends k number) number))

-- an end that isn't equal to a number isn't the number's
pub distinct_keys : {N : Type 0} (value_of : N → ℕ) (eq : N → N → Bool) (decides : (a b : N) → (eq a b ≡ true) ↔ (value_of a ≡ value_of b)) (ends : List N) (number x : N) (place : ℕ) →
    place ≡ before (value_of number) (map value_of ends) → x ≡ get_or ends place x → eq x number ≡ false →
    before (value_of number) (map value_of ends) < length (map value_of ends) → get_or (map value_of ends) (before (value_of number) (map value_of ends)) (value_of number) ≡ value_of number → ⊥
distinct_keys value_of eq decides ends number x place e at differs within same =
    let inside : place < length ends = omega (arith, e, within, length-map ends value_of) in
    let is : value_of x ≡ value_of number =
    ap value_of (at ∙ get_or_default ends place x number inside) ∙ sym (get_or_of_map value_of ends place number (value_of number) inside) ∙ ap (λ i. get_or (map value_of ends) i (value_of number)) e ∙ same in
    false≢true (sym differs ∙ (decides x number).1 is)
