-- A search by halves.
use Rattle.sorted_blocks.proofs.Words.{◌≡◌, ◌≢◌, ℕ, zero, suc, ◌+◌, ◌-◌, ◌*◌, ◌/◌, ◌%◌, ◌<◌, ◌≤◌, List, length, get_or, subst, refl, arith, Ordering, Less, IsLessAt}

-- what stands before `low` is less, and what stands `left` after it is not
pub record IsLeft {A : Type 0} (order : A → Ordering) (row : List A) (from low left : ℕ) : Type 0 where
  pub from_low : from ≤ low
  pub within : low + left ≤ length row
  pub less : (d : A) → 0 < low → order (get_or row (low - 1) d) ≡ Less
  pub not_less : (d : A) → low + left < length row → order (get_or row (low + left) d) ≢ Less

module _ {A : Type 0} (order : A → Ordering) (row : List A) where
  -- the half that is left
  pub halved : (from low left half less : ℕ) → IsLeft order row from low left → 0 < left → half ≡ left / 2 → less ≤ 1
      → (less ≡ 1 → IsLessAt order row (low + half)) → ((d : A) → less ≡ 0 → order (get_or row (low + half) d) ≢ Less)
      → IsLeft order row from (low + (half + 1) * less) (half - (1 - left % 2) * less)
  halved from low left half zero kept some is most here away =
      let at : low + (half + 1) * 0 ≡ low = omega arith in
      let end : half - (1 - left % 2) * 0 ≡ half = omega arith in
      rw (at, end) (record {
        from_low = kept.from_low;
        within = omega (arith, kept.within, is, some);
        less = kept.less;
        not_less = λ d h. away d refl;
      })
  halved from low left half (suc zero) kept some is most here away =
      let at : low + (half + 1) * 1 ≡ low + half + 1 = omega arith in
      let end : half - (1 - left % 2) * 1 ≡ left - half - 1 = omega (arith, is, some) in
      let before : low + half ≡ low + half + 1 - 1 = omega arith in
      let behind : low + left ≡ low + half + 1 + (left - half - 1) = omega (arith, is, some) in
      rw (at, end) (record {
        from_low = omega (arith, kept.from_low);
        within = omega (arith, kept.within, behind);
        less = λ d h. subst (λ (k : ℕ). order (get_or row k d) ≡ Less) before (here refl d);
        not_less = λ d h. subst (λ (k : ℕ). order (get_or row k d) ≢ Less) behind (kept.not_less d (omega (arith, h, behind)));
      })
  halved from low left half (suc (suc less)) kept some is most here away = absurd (omega (arith, most))
