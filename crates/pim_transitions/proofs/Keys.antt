-- The order of keys is total, and marks of one port compare as those of another.
use Rattle.pim_transitions.proofs.Words.{◌≡◌, ℕ, true, false, not, ◌&&◌, List, refl, sym, ap, subst, ◌∙◌, Ordering}
use Rattle.pim_transitions.proofs.Words.{Less, Equal, Greater, ordering_then, is_eq, is_lt, ordering_reverse, nat_cmp}
use Rattle.pim_transitions.proofs.Words.{IsTotalOrder, nat_cmp_total, nat_list_cmp_total, on_total, then_total}
use Rattle.pim_transitions.proofs.Words.{tied_itself, false≢true, What, Star, Source, Rpt, Key, rank, source_of}
use Rattle.pim_transitions.proofs.Words.{address_cmp, what_cmp, key_cmp, same_key, Event, key_of, same_mark}
use Rattle.std.specs.FinMap.{slice_cmp-IsAntisymmetric, nat_cmp-IsAntisymmetric}

pub key_total : IsTotalOrder key_cmp
unfolding key_cmp what_cmp
key_total =
    then_total
    (then_total (on_total (λ (k : Key (List ℕ)). k.port) nat_cmp_total) (on_total (λ (k : Key (List ℕ)). k.group) nat_list_cmp_total))
    (on_total (λ (k : Key (List ℕ)). k.what) (then_total (on_total rank nat_cmp_total) (on_total source_of nat_list_cmp_total)))

both_equal : (r s : Ordering) → ordering_then r s ≡ Equal → (r ≡ Equal) × (s ≡ Equal)
both_equal Less s e = absurd (false≢true (ap is_eq e))
both_equal Equal s e = (refl, e)
both_equal Greater s e = absurd (false≢true (ap is_eq e))

pub same_address : (a b : List ℕ) → address_cmp a b ≡ Equal → a ≡ b
same_address a b e = slice_cmp-IsAntisymmetric nat_cmp-IsAntisymmetric a b e

same_what : (a b : What (List ℕ)) → what_cmp a b ≡ Equal → a ≡ b
unfolding what_cmp
same_what Star Star e = refl
same_what Star (Source t) e = absurd (false≢true (ap is_eq e))
same_what Star (Rpt t) e = absurd (false≢true (ap is_eq e))
same_what (Source s) Star e = absurd (false≢true (ap is_eq e))
same_what (Source s) (Source t) e = ap (λ a. Source a) (same_address s t (both_equal (nat_cmp 1 1) (address_cmp s t) e).1)
same_what (Source s) (Rpt t) e = absurd (false≢true (ap is_eq e))
same_what (Rpt s) Star e = absurd (false≢true (ap is_eq e))
same_what (Rpt s) (Source t) e = absurd (false≢true (ap is_eq e))
same_what (Rpt s) (Rpt t) e = ap (λ a. Rpt a) (same_address s t (both_equal (nat_cmp 2 2) (address_cmp s t) e).1)

pub equal_keys : (a b : Key (List ℕ)) → key_cmp a b ≡ Equal → a ≡ b
unfolding key_cmp
equal_keys a b e =
    let whole = both_equal (ordering_then (nat_cmp a.port b.port) (address_cmp a.group b.group)) (what_cmp a.what b.what) e in
    let front = both_equal (nat_cmp a.port b.port) (address_cmp a.group b.group) whole.0 in
    let ports = nat_cmp-IsAntisymmetric a.port b.port front.0 in
    let groups = same_address a.group b.group front.1 in
    let whats = same_what a.what b.what whole.1 in
    λ i. record { port = ports i; group = groups i; what = whats i }

is_equal : (r : Ordering) → is_eq r ≡ true → r ≡ Equal
is_equal Less e = absurd (false≢true e)
is_equal Equal e = refl
is_equal Greater e = absurd (false≢true e)

pub same_keys : (a b : Key (List ℕ)) → same_key a b ≡ true → a ≡ b
same_keys a b e = equal_keys a b (is_equal (key_cmp a b) e)

pub same_itself : (a : Key (List ℕ)) → same_key a a ≡ true
same_itself a = ap is_eq (tied_itself key_total a)

reversed : (r : Ordering) → is_eq (ordering_reverse r) ≡ is_eq r
reversed Less = refl
reversed Equal = refl
reversed Greater = refl

pub same_back : (a b : Key (List ℕ)) → same_key a b ≡ same_key b a
same_back a b = ap is_eq (key_total.antisymm a b) ∙ reversed (key_cmp b a)

-- neither comes before the other: a sort's tie
pub tie : (a b : Key (List ℕ)) → (not (is_lt (key_cmp a b)) && not (is_lt (key_cmp b a))) ≡ same_key a b
tie a b = ap (λ r. not (is_lt (key_cmp a b)) && not (is_lt r)) (key_total.antisymm b a) ∙ by (key_cmp a b)
  where
    by : (r : Ordering) → (not (is_lt r) && not (is_lt (ordering_reverse r))) ≡ is_eq r
    by Less = refl
    by Equal = refl
    by Greater = refl

-- what is not before a key, and apart from it, is behind it
pub behind : (a b : Key (List ℕ)) → is_lt (key_cmp b a) ≡ false → same_key a b ≡ false → key_cmp a b ≡ Less
behind a b up apart = by (key_cmp a b) refl
  where
    by : (r : Ordering) → key_cmp a b ≡ r → r ≡ Less
    by Less e = refl
    by Equal e = absurd (false≢true (sym apart ∙ ap is_eq e))
    by Greater e = absurd (false≢true (sym up ∙ ap is_lt (key_total.antisymm b a ∙ ap ordering_reverse e)))

-- and what is behind it is behind what comes before
pub further : (a b c : Key (List ℕ)) → key_cmp a b ≡ Less → is_lt (key_cmp c b) ≡ false → key_cmp a c ≡ Less
further a b c less up = by (key_cmp b c) refl
  where
    by : (r : Ordering) → key_cmp b c ≡ r → key_cmp a c ≡ Less
    by Less e = key_total.trans a b c less e
    by Equal e = subst (λ k. key_cmp a k ≡ Less) (equal_keys b c e) less
    by Greater e = absurd (false≢true (sym up ∙ ap is_lt (key_total.antisymm c b ∙ ap ordering_reverse e)))

pub less_apart : (a b : Key (List ℕ)) → key_cmp a b ≡ Less → same_key b a ≡ false
less_apart a b e = same_back b a ∙ ap is_eq e

-- ---- marks of a port

pub on_port : (port : ℕ) (a b : Event) → key_cmp (key_of port a) (key_of port b) ≡ key_cmp (key_of 0 a) (key_of 0 b)
unfolding key_cmp
on_port port a b = ap (λ r. ordering_then (ordering_then r (address_cmp a.group b.group)) (what_cmp a.what b.what)) (tied_itself nat_cmp_total port)

pub same_on_port : (port : ℕ) (a b : Event) → same_key (key_of port a) (key_of port b) ≡ same_mark a b
same_on_port port a b = ap is_eq (on_port port a b)

-- by group, and then by machine
pub marks_cmp : (a b : Event) → ordering_then (address_cmp a.group b.group) (what_cmp a.what b.what) ≡ key_cmp (key_of 0 a) (key_of 0 b)
unfolding key_cmp
marks_cmp a b = refl
