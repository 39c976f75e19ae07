-- The walk over headers, header by header.
use Rattle.std.proofs.Common.{◌≡◌, ◌∙◌, ℕ, suc, ◌+◌, ◌-◌, ◌<◌, ◌≤◌, true, false, List, refl, sym, ap, arith, eq-eqb, ne_eqb, slice_index}
use Rattle.std.specs.Prelude.{Result, Ok, Err, None}
use Rattle.pim_addr.specs.Faults.{judged}
use Rattle.pim_capture.specs.declared.event.Why.{Why}
use Rattle.pim_capture.specs.declared.event.Why.TheVariants.{BadHeader, NotPim}
use Rattle.pim_fragments.specs.declared.headers.Content.{Content}
use Rattle.pim_fragments.specs.Headers.{walk, most_headers, header_length, header_whys, fragment_at, is_part, content_at, after_header, is_read}

left : (n : ℕ) → n < most_headers → most_headers - n ≡ suc (most_headers - (n + 1))
left n l = omega arith

module _ (n next at total : ℕ) (bytes : List ℕ) (answer : Result Content Why) (same : walk (most_headers - n) next at total bytes ≡ answer) where
  opened : n < most_headers → walk (suc (most_headers - (n + 1))) next at total bytes ≡ answer
  opened l = sym (ap (λ k. walk k next at total bytes) (left n l)) ∙ same

  pub ends : most_headers ≤ n → Err BadHeader ≡ answer
  unfolding walk
  ends past = let none : most_headers - n ≡ 0 = omega arith in sym (ap (λ k. walk k next at total bytes) none) ∙ same

  pub is_here : n < most_headers → next ≡ 103 → Ok (record { begin = at; fragment = None }) ≡ answer
  unfolding walk
  is_here l e = let h = opened l in rw (eq-eqb next 103 e) at h

  module _ (l : n < most_headers) (apart : next ≡ 103 → ⊥) where
    go_on : ℕ → Result Content Why
    go_on end = walk (most_headers - (n + 1)) (slice_index bytes at) end total bytes

    passed : (end : Result ℕ Why) → end ≡ judged (header_whys next at total bytes) (at + header_length next at bytes)
        → after_header next at bytes (λ end. walk (most_headers - (n + 1)) (slice_index bytes at) end total bytes) end ≡ answer
    unfolding walk
    passed end is = ap (after_header next at bytes (λ end. walk (most_headers - (n + 1)) (slice_index bytes at) end total bytes)) is ∙ (let h = opened l in rw (ne_eqb next 103 apart) at h)

    pub stops : (why : Why) → Err why ≡ judged (header_whys next at total bytes) (at + header_length next at bytes) → Err why ≡ answer
    stops why is = passed (Err why) is

    module _ (end : ℕ) (is : Ok end ≡ judged (header_whys next at total bytes) (at + header_length next at bytes)) where
      pub is_fragment : next ≡ 44 → is_part (fragment_at at bytes) ≡ true → content_at end (fragment_at at bytes) ≡ answer
      is_fragment e part = let h = passed (Ok end) is in rw (eq-eqb next 44 e, part) at h

      pub is_whole : next ≡ 44 → is_part (fragment_at at bytes) ≡ false → walk (most_headers - (n + 1)) (slice_index bytes at) end total bytes ≡ answer
      is_whole e part = let h = passed (Ok end) is in rw (eq-eqb next 44 e, part) at h

      pub is_option : (next ≡ 44 → ⊥) → walk (most_headers - (n + 1)) (slice_index bytes at) end total bytes ≡ answer
      is_option other = let h = passed (Ok end) is in rw (ne_eqb next 44 other) at h

-- a header that isn't read
pub unread : (next at total : ℕ) (bytes : List ℕ) → (next ≡ 103 → ⊥) → is_read next ≡ false → walk most_headers next at total bytes ≡ Err NotPim
unread next at total bytes apart other =
    let whys : Err NotPim ≡ judged (header_whys next at total bytes) (at + header_length next at bytes) = rw other refl in
    sym (stops 0 next at total bytes (walk most_headers next at total bytes) refl (omega arith) apart NotPim whys)
