-- Addresses in order.
use Rattle.pim_emit.proofs.Words.{◌≡◌, ◌∙◌, ℕ, true, false, List, Option, None, Some, refl, sym, ap, subst, Ordering}
use Rattle.pim_emit.proofs.Words.{Less, Equal, Greater, is_lt, is_le, is_eq, ordering_reverse, texts_ties}
use Rattle.pim_emit.proofs.Words.{nat_list_cmp_total, tied_itself, false≢true, is_above, address_cmp, same_address}
use Rattle.std.specs.FinMap.{slice_cmp-IsAntisymmetric, nat_cmp-IsAntisymmetric}

pub equal_is : (a b : List ℕ) → address_cmp a b ≡ Equal → a ≡ b
equal_is a b h = slice_cmp-IsAntisymmetric nat_cmp-IsAntisymmetric a b h

pub itself : (a : List ℕ) → address_cmp a a ≡ Equal
itself a = tied_itself nat_list_cmp_total a

pub same_itself : (a : List ℕ) → same_address a a ≡ true
same_itself a = texts_ties a a ∙ ap is_eq (itself a)

pub same_is : (a b : List ℕ) → same_address a b ≡ true → a ≡ b
same_is a b h = from (address_cmp a b) refl (sym (texts_ties a b) ∙ h)
  where
    from : (r : Ordering) → address_cmp a b ≡ r → is_eq (address_cmp a b) ≡ true → a ≡ b
    from Less e same = absurd (false≢true (sym (ap is_eq e) ∙ same))
    from Equal e same = equal_is a b e
    from Greater e same = absurd (false≢true (sym (ap is_eq e) ∙ same))

pub less_apart : (a b : List ℕ) → address_cmp a b ≡ Less → same_address a b ≡ false
less_apart a b h = texts_ties a b ∙ ap is_eq h

pub back : (a b : List ℕ) → address_cmp b a ≡ ordering_reverse (address_cmp a b)
back a b = nat_list_cmp_total.antisymm b a

pub less_trans : (a b c : List ℕ) → address_cmp a b ≡ Less → address_cmp b c ≡ Less → address_cmp a c ≡ Less
less_trans = nat_list_cmp_total.trans

pub lt_less : (r : Ordering) → is_lt r ≡ true → r ≡ Less
lt_less Less e = refl
lt_less Equal e = absurd (false≢true e)
lt_less Greater e = absurd (false≢true e)

-- ---- what is above a bound

-- an address is not above itself
pub not_above_itself : (a : List ℕ) → is_above (Some a) a ≡ false
not_above_itself a = ap is_lt (itself a)

-- nor above one that is above it
pub not_above_greater : (a b : List ℕ) → address_cmp a b ≡ Less → is_above (Some b) a ≡ false
not_above_greater a b less = ap is_lt (back a b ∙ ap ordering_reverse less)

pub above_less : (bound : Option (List ℕ)) (a b : List ℕ) → is_above bound a ≡ true → address_cmp a b ≡ Less → is_above bound b ≡ true
above_less None a b above less = refl
above_less (Some bound) a b above less = ap is_lt (less_trans bound a b (lt_less (address_cmp bound a) above) less)

-- an address that another one comes before or is, and that isn't it, is above it
pub le_above : (a b : List ℕ) → is_le (address_cmp a b) ≡ true → same_address b a ≡ false → is_above (Some a) b ≡ true
le_above a b le apart = from (address_cmp a b) refl
  where
    from : (r : Ordering) → address_cmp a b ≡ r → is_above (Some a) b ≡ true
    from Less e = ap is_lt e
    from Equal e = absurd (false≢true (sym apart ∙ subst (λ (c : List ℕ). same_address b c ≡ true) (sym (equal_is a b e)) (same_itself b)))
    from Greater e = absurd (false≢true (sym (ap is_le e) ∙ le))
