-- What was read up to a size is the front of that size, and what is left is the rest.
use Rattle.std.proofs.Common.{◌≡◌, ℕ, ◌<◌, ◌≤◌, List, [], ◌++◌, length, take, drop, ap, sym, ◌∙◌, arith}
use Rattle.std.proofs.lemmas.List.{take_at, drop_at, take_all, drop_all, append-nil, length-take-le}
use Rattle.std.proofs.lemmas.Grind.{common_steps}

-- the size was reached, or nothing is left
pub front_reached : (size : ℕ) (xs front ys : List ℕ) → length front ≡ size → xs ≡ front ++ ys → (take size xs ≡ front) × (drop size xs ≡ ys)
front_reached size xs front ys l e = (ap (take size) e ∙ take_at front ys size l, ap (drop size) e ∙ drop_at front ys size l)

pub front_ended : (size : ℕ) (xs front ys : List ℕ) → length front < size → xs ≡ front ++ ys → ys ≡ [] → (take size xs ≡ front) × (drop size xs ≡ ys) × (length xs ≡ length front)
front_ended size xs front ys l e d =
    let whole : xs ≡ front = e ∙ ap (λ zs. front ++ zs) d ∙ append-nil front in
    let short : length xs ≤ size = omega (arith, ap length whole) in
    (take_all size xs short ∙ whole, drop_all size xs short ∙ sym d, ap length whole)

pub front_is : (size got : ℕ) (h xs ys : List ℕ) → length h ≡ size → got ≤ length h → xs ≡ take got h ++ ys → (got < length h → ys ≡ [])
    → (take size xs ≡ take got h) × (drop size xs ≡ ys)
front_is size got h xs ys l b e d = grind (arith, common_steps, front_reached, front_ended, length-take-le)
