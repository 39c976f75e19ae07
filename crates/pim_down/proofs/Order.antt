-- The order of keys is total, and tells no two of them alike.
use Rattle.pim_down.proofs.Words.{◌≡◌, ◌↔◌, ℕ, true, false, List, refl, ap, subst, ◌∙◌, Ordering, Less, Equal, Greater, ordering_then, is_eq, ordering_reverse, nat_cmp, IsTotalOrder, slice_cmp-IsAntisymmetric, nat_cmp-IsAntisymmetric, nat_cmp_total, nat_list_cmp_total, on_total, then_total, tied_itself, false≢true, What, Star, Source, Rpt, Key, rank, source_of, address_cmp, what_cmp, key_cmp, same_key}

pub key_total : IsTotalOrder key_cmp
unfolding key_cmp what_cmp
key_total =
    then_total
    (then_total (on_total (λ (k : Key (List ℕ)). k.port) nat_cmp_total) (on_total (λ (k : Key (List ℕ)). k.group) nat_list_cmp_total))
    (on_total (λ (k : Key (List ℕ)). k.what) (then_total (on_total rank nat_cmp_total) (on_total source_of nat_list_cmp_total)))

-- both parts are equal where the whole is
pub both_equal : (r s : Ordering) → ordering_then r s ≡ Equal → (r ≡ Equal) × (s ≡ Equal)
both_equal Less s e = absurd (false≢true (ap is_eq e))
both_equal Equal s e = (refl, e)
both_equal Greater s e = absurd (false≢true (ap is_eq e))

pub same_address : (a b : List ℕ) → address_cmp a b ≡ Equal → a ≡ b
same_address a b e = slice_cmp-IsAntisymmetric nat_cmp-IsAntisymmetric a b e

pub same_what : (a b : What (List ℕ)) → what_cmp a b ≡ Equal → a ≡ b
unfolding what_cmp
same_what Star Star e = refl
same_what Star (Source t) e = absurd (false≢true (ap is_eq e))
same_what Star (Rpt t) e = absurd (false≢true (ap is_eq e))
same_what (Source s) Star e = absurd (false≢true (ap is_eq e))
same_what (Source s) (Source t) e = ap (λ a. Source a) (same_address s t (both_equal (nat_cmp 1 1) (address_cmp s t) e).1)
same_what (Source s) (Rpt t) e = absurd (false≢true (ap is_eq e))
same_what (Rpt s) Star e = absurd (false≢true (ap is_eq e))
same_what (Rpt s) (Source t) e = absurd (false≢true (ap is_eq e))
same_what (Rpt s) (Rpt t) e = ap (λ a. Rpt a) (same_address s t (both_equal (nat_cmp 2 2) (address_cmp s t) e).1)

pub equal_keys : (a b : Key (List ℕ)) → key_cmp a b ≡ Equal → a ≡ b
unfolding key_cmp
equal_keys a b e =
    let whole = both_equal (ordering_then (nat_cmp a.port b.port) (address_cmp a.group b.group)) (what_cmp a.what b.what) e in
    let front = both_equal (nat_cmp a.port b.port) (address_cmp a.group b.group) whole.0 in
    let ports = nat_cmp-IsAntisymmetric a.port b.port front.0 in
    let groups = same_address a.group b.group front.1 in
    let whats = same_what a.what b.what whole.1 in
    λ i. record { port = ports i; group = groups i; what = whats i }

is_equal : (r : Ordering) → is_eq r ≡ true → r ≡ Equal
is_equal Less e = absurd (false≢true e)
is_equal Equal e = refl
is_equal Greater e = absurd (false≢true e)

pub same_keys : (a b : Key (List ℕ)) → same_key a b ≡ true → a ≡ b
same_keys a b e = equal_keys a b (is_equal (key_cmp a b) e)

pub key_itself : (a : Key (List ℕ)) → key_cmp a a ≡ Equal
key_itself a = tied_itself key_total a

pub same_itself : (a : Key (List ℕ)) → same_key a a ≡ true
same_itself a = ap is_eq (key_itself a)

pub less_differs : (a b : Key (List ℕ)) → key_cmp a b ≡ Less → same_key a b ≡ false
less_differs a b e = ap is_eq e

pub greater_differs : (a b : Key (List ℕ)) → key_cmp a b ≡ Greater → same_key a b ≡ false
greater_differs a b e = ap is_eq e

pub less_back : (a b : Key (List ℕ)) → key_cmp a b ≡ Less → key_cmp b a ≡ Greater
less_back a b e = key_total.antisymm b a ∙ ap ordering_reverse e

pub greater_back : (a b : Key (List ℕ)) → key_cmp a b ≡ Greater → key_cmp b a ≡ Less
greater_back a b e = key_total.antisymm b a ∙ ap ordering_reverse e

pub same_back : (a b : Key (List ℕ)) → same_key a b ≡ false → same_key b a ≡ false
same_back a b e = ap is_eq (key_total.antisymm b a) ∙ reversed (key_cmp a b) ∙ e
  where
    reversed : (r : Ordering) → is_eq (ordering_reverse r) ≡ is_eq r
    reversed Less = refl
    reversed Equal = refl
    reversed Greater = refl

pub distinct_keys : (a b : Key (List ℕ)) → ((key_cmp a b ≡ Equal) ↔ (a ≡ b)) × ((same_key a b ≡ true) ↔ (a ≡ b))
distinct_keys a b = ((equal_keys a b, λ e. subst (λ (k : Key (List ℕ)). key_cmp a k ≡ Equal) e (key_itself a)), (same_keys a b, λ e. subst (λ (k : Key (List ℕ)). same_key a k ≡ true) e (same_itself a)))
