-- Addresses: when two are the same, and what their order says of it.
use Rattle.pim_change.proofs.Words.{◌≡◌, ◌∙◌, ◌↔◌, ℕ, Bool, true, false, not, IsTrue, List, [], ◌∷◌, Ordering, refl}
use Rattle.pim_change.proofs.Words.{sym, ap, false≢true, both_ways, not-true, Less, Equal, Greater, AllByRecursion}
use Rattle.pim_change.proofs.Words.{nat_cmp, ordering_reverse, is_eq, slice_cmp, texts_ties, nat_list_cmp_total}
use Rattle.pim_change.proofs.Words.{tied_itself, same_address, is_listed}
use Rattle.std.specs.FinMap.{slice_cmp-IsAntisymmetric, nat_cmp-IsAntisymmetric}

pub same_itself : (a : List ℕ) → same_address a a ≡ true
same_itself a = texts_ties a a ∙ ap is_eq (tied_itself nat_list_cmp_total a)

pub same_is : (a b : List ℕ) → same_address a b ≡ true → a ≡ b
same_is a b h = by (slice_cmp nat_cmp a b) refl (sym (texts_ties a b) ∙ h)
  where
    by : (o : Ordering) → slice_cmp nat_cmp a b ≡ o → is_eq (slice_cmp nat_cmp a b) ≡ true → a ≡ b
    by Less is same = absurd (false≢true (sym (ap is_eq is) ∙ same))
    by Equal is same = slice_cmp-IsAntisymmetric nat_cmp-IsAntisymmetric a b is
    by Greater is same = absurd (false≢true (sym (ap is_eq is) ∙ same))

-- what isn't equal in the code isn't the same address
pub differ : (equal : Bool) (a b : List ℕ) → (IsTrue equal ↔ (a ≡ b)) → not equal ≡ true → same_address a b ≡ false
differ equal a b law is = by (same_address a b) refl
  where
    by : (t : Bool) → same_address a b ≡ t → same_address a b ≡ false
    by true same = absurd (both_ways equal (not-true equal is) (law.1 (same_is a b same)))
    by false same = same

pub equal_is : (a b : List ℕ) → slice_cmp nat_cmp a b ≡ Equal → a ≡ b
equal_is a b h = slice_cmp-IsAntisymmetric nat_cmp-IsAntisymmetric a b h

pub less_apart : (a b : List ℕ) → slice_cmp nat_cmp a b ≡ Less → same_address a b ≡ false
less_apart a b h = texts_ties a b ∙ ap is_eq h

pub greater_less : (a b : List ℕ) → slice_cmp nat_cmp a b ≡ Greater → slice_cmp nat_cmp b a ≡ Less
greater_less a b h = nat_list_cmp_total.antisymm b a ∙ ap ordering_reverse h

pub less_greater : (a b : List ℕ) → slice_cmp nat_cmp a b ≡ Less → slice_cmp nat_cmp b a ≡ Greater
less_greater a b h = nat_list_cmp_total.antisymm b a ∙ ap ordering_reverse h

pub less_apart_back : (a b : List ℕ) → slice_cmp nat_cmp a b ≡ Less → same_address b a ≡ false
less_apart_back a b h = texts_ties b a ∙ ap is_eq (nat_list_cmp_total.antisymm b a ∙ ap ordering_reverse h)

pub all_behind : (a b : List ℕ) (xs : List (List ℕ)) → slice_cmp nat_cmp a b ≡ Less
    → AllByRecursion (λ x. slice_cmp nat_cmp b x ≡ Less) xs
    → AllByRecursion (λ x. slice_cmp nat_cmp a x ≡ Less) xs
all_behind a b [] less below = tt
all_behind a b (x ∷ xs) less below = (nat_list_cmp_total.trans a b x less below.0, all_behind a b xs less below.1)

pub unlisted_below : (a : List ℕ) (xs : List (List ℕ)) → AllByRecursion (λ x. slice_cmp nat_cmp a x ≡ Less) xs
    → is_listed a xs ≡ false
unlisted_below a [] below = refl
unlisted_below a (x ∷ xs) below = rw (less_apart a x below.0) (unlisted_below a xs below.1)
