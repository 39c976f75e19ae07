-- Messages as they are kept.
use Rattle.pim_form.proofs.Words.{◌≡◌, ℕ, suc, ◌<◌, List, [], ◌∷◌, length, Some, slice_get, refl, ap, arith, Span, messages_seen}

pub spans_count : (bytes : List ℕ) (spans : List Span) → length (messages_seen bytes spans) ≡ length spans
spans_count bytes [] = refl
spans_count bytes (span ∷ spans) = ap suc (spans_count bytes spans)

pub same_by_items : (xs ys : List (List ℕ)) → length xs ≡ length ys → ((k : ℕ) → k < length xs → slice_get xs k ≡ slice_get ys k) → xs ≡ ys
same_by_items [] [] long same = refl
same_by_items [] (y ∷ ys) long same = absurd (omega arith)
same_by_items (x ∷ xs) [] long same = absurd (omega arith)
same_by_items (x ∷ xs) (y ∷ ys) long same =
    let first : Some x ≡ Some y = same 0 (omega arith) in
    let head : x ≡ y = cc in
    let tail = same_by_items xs ys (omega arith) (λ k below. same (suc k) (omega arith)) in
    λ i. head i ∷ tail i
