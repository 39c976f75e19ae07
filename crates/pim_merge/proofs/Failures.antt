-- The failures of several devices together.
use Rattle.pim_merge.proofs.Words.{◌≡◌, ◌∙◌, ◌+◌, min, ℕ, List, [], ◌∷◌, sym, ap, subst, arith, sum_by, all_failures}
use Rattle.std.proofs.lemmas.List.Sums.{sum_by-cons}
use Rattle.pim_device.specs.Device.{FailedIn, top_count}

-- The count of one device moved from n to n', and that of all with it from m to m'.
pub record Moves (n n' m m' : ℕ) : Type 0 where
  pub fails : FailedIn n n' → FailedIn m m'
  pub rises : n' ≡ min (n + 1) top_count → m' ≡ min (m + 1) top_count
  pub stays : n' ≡ n → m' ≡ m

fails_with : (n n' others : ℕ) → FailedIn n n' → FailedIn (min (n + others) top_count) (min (n' + others) top_count)
fails_with n n' others is = omega (arith, is)

rises_with : (n n' others : ℕ) → n' ≡ min (n + 1) top_count →
    min (n' + others) top_count ≡ min (min (n + others) top_count + 1) top_count
rises_with n n' others is = omega (arith, is)

pub moves : {R : Type 0} (failures : R → ℕ) (device device' : R) (others : List R) →
    Moves (failures device) (failures device') (all_failures failures (device ∷ others))
    (all_failures failures (device' ∷ others))
moves failures device device' [] = record { fails = λ is. is; rises = λ is. is; stays = λ is. is }
moves failures device device' (other ∷ others) =
    let old = sum_by-cons failures device (other ∷ others) in
    let new = sum_by-cons failures device' (other ∷ others) in
    let rest = sum_by failures (other ∷ others) in record {
      fails = λ is. subst (λ k. FailedIn (min k top_count) (min (sum_by failures (device' ∷ other ∷ others)) top_count)) (sym old)
          (subst (λ k. FailedIn (min (failures device + rest) top_count) (min k top_count)) (sym new)
          (fails_with (failures device) (failures device') rest is));
      rises = λ is. ap (λ k. min k top_count) new ∙ rises_with (failures device) (failures device') rest is
          ∙ ap (λ k. min (min k top_count + 1) top_count) (sym old);
      stays = λ is. ap (λ k. min k top_count) (new ∙ ap (λ k. k + rest) is ∙ sym old);
    }
