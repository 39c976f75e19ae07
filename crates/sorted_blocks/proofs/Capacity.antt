-- Within the capacity a spare block is there, whatever the blocks look like.
use Rattle.sorted_blocks.proofs.Words.{◌≡◌, ℕ, zero, suc, ◌+◌, ◌-◌, ◌*◌, ◌/◌, ◌<◌, ◌≤◌, length, refl, ap, arith, lit<, div-mul-le_self, le-div_iff_mul-le, mul-le-mul_right, Shape, items, block_total, capacity, IsDense}
use Rattle.sorted_blocks.proofs.Dense.{dense-few}

module _ {A : Type 0} where
  pub capacity_is : (half : ℕ) (s : Shape A) → capacity half s ≡ (block_total s - 1) * (half + 1) / 2
  unfolding capacity
  capacity_is half s = refl

  -- it goes by the number of blocks alone
  pub capacity_same : (half : ℕ) (s t : Shape A) → block_total t ≡ block_total s → capacity half t ≡ capacity half s
  unfolding capacity
  capacity_same half s t e = ap (λ n. (n - 1) * (half + 1) / 2) e

  pub capacity_more : (half : ℕ) (s t : Shape A) → block_total s ≤ block_total t → capacity half s ≤ capacity half t
  unfolding capacity
  capacity_more half s t h =
      let least = (block_total s - 1) * (half + 1) in
      let grown : least ≤ (block_total t - 1) * (half + 1) = mul-le-mul_right (half + 1) (omega (arith, h)) in
      (le-div_iff_mul-le (lit< tt)).1 (omega (arith, grown, div-mul-le_self least 2))

  pub spare_within : (half : ℕ) (s : Shape A) → IsDense half s.blocks → length (items s) < capacity half s → 0 < s.spare
  spare_within half s d h = by_spare s.spare refl
    where
      by_spare : (n : ℕ) → s.spare ≡ n → 0 < n
      by_spare zero e =
          let few = dense-few half s.blocks d in
          let same = ap (λ n. (n - 1) * (half + 1)) (ap (λ n. length s.blocks + n) e) in
          let most = div-mul-le_self ((block_total s - 1) * (half + 1)) 2 in
          let plain = ap (λ n. (n - 1) * (half + 1)) (add-zero-of (length s.blocks)) in
          absurd (omega (arith, few, same, plain, most, h, capacity_is half s))
        where
          add-zero-of : (n : ℕ) → n + 0 ≡ n
          add-zero-of n = omega arith
      by_spare (suc n) e = omega arith
