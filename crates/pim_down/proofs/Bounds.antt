-- What stands before a bound, and what behind it.
use Rattle.pim_down.proofs.Words.{◌≡◌, ℕ, ◌-◌, ◌≤◌, Bool, true, false, List, [], ◌∷◌, length, get_or, refl, sym, ap, ◌∙◌, arith, Less, Equal, Greater, is_lt, is_eq, IsPartitionedBy, IsPartitionPoint, false≢true, IsGap, IsEqualAt, side}

side_less : (b : Bool) → side b ≡ Less → b ≡ true
side_less true e = refl
side_less false e = absurd (false≢true (ap is_lt e))

side_greater : (b : Bool) → side b ≡ Greater → b ≡ false
side_greater true e = absurd (false≢true (sym (ap is_lt e)))
side_greater false e = refl

never_equal : (b : Bool) → side b ≡ Equal → ⊥
never_equal true e = false≢true (ap is_eq e)
never_equal false e = false≢true (ap is_eq e)

pub never_found : {X : Type 0} (p : X → Bool) (xs : List X) (i : ℕ) → IsEqualAt (λ x. side (p x)) xs i → ⊥
never_found p [] i equal = let w = equal.within in absurd (omega arith)
never_found p (x ∷ xs) i equal = never_equal (p (get_or (x ∷ xs) i x)) (equal.equal x)

pub gap_parts : {X : Type 0} (p : X → Bool) (xs : List X) (i : ℕ) → i ≤ length xs → IsPartitionedBy p xs → IsGap (λ x. side (p x)) xs i → IsPartitionPoint (λ x. p x ≡ true) (λ x. p x ≡ false) xs i
gap_parts {X} p xs i w parted gap = (
  λ k d from lt. parted k (i - 1) d (omega arith) (omega arith) (side_less (p (get_or xs (i - 1) d)) (gap.less d (omega arith))),
  λ k d from lt. by k d (p (get_or xs k d)) refl (λ t. parted i k d from lt t) (side_greater (p (get_or xs i d)) (gap.greater d (omega arith))),
)
  where
    by : (k : ℕ) (d : X) (t : Bool) → p (get_or xs k d) ≡ t → (p (get_or xs k d) ≡ true → p (get_or xs i d) ≡ true) → p (get_or xs i d) ≡ false → p (get_or xs k d) ≡ false
    by k d true e back not = absurd (false≢true (sym not ∙ back e))
    by k d false e back not = e
