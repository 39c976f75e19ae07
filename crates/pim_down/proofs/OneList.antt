-- A map has one list in key order.
use Rattle.pim_down.proofs.Words.{◌≡◌, ℕ, true, false, List, [], ◌∷◌, Option, Some, None, refl, sym, ap, subst, ◌∙◌, Less, Equal, Greater, is_some, false≢true, Key, Machine, Record, key_cmp, same_key, IsBelow, IsAscending, machine_at, changed}
use Rattle.pim_down.proofs.Order.{equal_keys, same_keys, same_itself, greater_back}
use Rattle.pim_down.proofs.Map.{IsBelow-trans, none_below, at_changed, at_other_changed}

none_some : (m : Machine) → ◌≡◌ {A = Option Machine} None (Some m) → ⊥
none_some m e = false≢true (ap is_some e)

first_at : (held : Record (List ℕ)) (records : List (Record (List ℕ))) → machine_at held.key (held ∷ records) ≡ Some held.machine
unfolding machine_at
first_at held records = rw (same_itself held.key) refl

later_at : (held : Record (List ℕ)) (records : List (Record (List ℕ))) (key : Key (List ℕ)) → same_key key held.key ≡ false → machine_at key (held ∷ records) ≡ machine_at key records
unfolding machine_at
later_at held records key differs = rw differs refl

before_first : (key : Key (List ℕ)) (held : Record (List ℕ)) (records : List (Record (List ℕ))) → key_cmp key held.key ≡ Less → IsBelow held.key records → machine_at key (held ∷ records) ≡ None
unfolding IsBelow
before_first key held records less below = none_below key (held ∷ records) (less, IsBelow-trans key held.key records less below)

same_rest : (x y : Record (List ℕ)) (xs ys : List (Record (List ℕ))) → x.key ≡ y.key → IsBelow x.key xs → IsBelow y.key ys → ((key : Key (List ℕ)) → machine_at key (x ∷ xs) ≡ machine_at key (y ∷ ys)) → (key : Key (List ℕ)) → machine_at key xs ≡ machine_at key ys
same_rest x y xs ys keys below_x below_y same key =
    elim (same_key key x.key) as (λ t. same_key key x.key ≡ t → machine_at key xs ≡ machine_at key ys) [
      | true ↦ λ e.
          let there : machine_at x.key ys ≡ None = subst (λ (k : Key (List ℕ)). machine_at k ys ≡ None) (sym keys) (none_below y.key ys below_y) in
          subst (λ (k : Key (List ℕ)). machine_at k xs ≡ machine_at k ys) (sym (same_keys key x.key e)) (none_below x.key xs below_x ∙ sym there)
      | false ↦ λ e. sym (later_at x xs key e) ∙ same key ∙ later_at y ys key (subst (λ (k : Key (List ℕ)). same_key key k ≡ false) keys e)
    ] refl

same_first : (x y : Record (List ℕ)) (xs ys : List (Record (List ℕ))) → x.key ≡ y.key → ((key : Key (List ℕ)) → machine_at key (x ∷ xs) ≡ machine_at key (y ∷ ys)) → x ≡ y
same_first x y xs ys keys same =
    let at : Some x.machine ≡ Some y.machine = sym (first_at x xs) ∙ same x.key ∙ ap (λ (k : Key (List ℕ)). machine_at k (y ∷ ys)) keys ∙ first_at y ys in
    let machines : x.machine ≡ y.machine = cc in
    λ i. record { key = keys i; machine = machines i }

pub one_list : (a b : List (Record (List ℕ))) → IsAscending a → IsAscending b → ((key : Key (List ℕ)) → machine_at key a ≡ machine_at key b) → a ≡ b
unfolding IsAscending machine_at
one_list [] [] ascending_a ascending_b same = refl
one_list [] (y ∷ ys) ascending_a ascending_b same = absurd (none_some y.machine (same y.key ∙ first_at y ys))
one_list (x ∷ xs) [] ascending_a ascending_b same = absurd (none_some x.machine (sym (same x.key) ∙ first_at x xs))
one_list (x ∷ xs) (y ∷ ys) ascending_a ascending_b same =
    elim (key_cmp x.key y.key) as (λ r. key_cmp x.key y.key ≡ r → x ∷ xs ≡ y ∷ ys) [
      | Less ↦ λ e. absurd (none_some x.machine (sym (before_first x.key y ys e ascending_b.0) ∙ sym (same x.key) ∙ first_at x xs))
      | Equal ↦ λ e.
          let keys = equal_keys x.key y.key e in
          let head = same_first x y xs ys keys same in
          let tail = one_list xs ys ascending_a.1 ascending_b.1 (same_rest x y xs ys keys ascending_a.0 ascending_b.0 same) in
          ap (λ (r : Record (List ℕ)). r ∷ xs) head ∙ ap (λ (rs : List (Record (List ℕ))). y ∷ rs) tail
      | Greater ↦ λ e. absurd (none_some y.machine (sym (before_first y.key x xs (greater_back x.key y.key e) ascending_a.0) ∙ same y.key ∙ first_at y ys))
    ] refl

pub at_its_key : (key : Key (List ℕ)) (change : Option Machine → Option Machine) (records : List (Record (List ℕ))) → IsAscending records →
    (machine_at key (changed key change records) ≡ change (machine_at key records)) × ((other : Key (List ℕ)) → same_key other key ≡ false → machine_at other (changed key change records) ≡ machine_at other records)
at_its_key key change records ascending = (at_changed key change records ascending, λ other differs. at_other_changed key change other records differs)
