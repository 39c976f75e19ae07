-- Items written one behind the other, each in a place of one size.
use Rattle.pim_jp.proofs.Words.{◌≡◌, ℕ, ◌*◌, ◌≤◌, List, length, take, map, sym, ap, ◌∙◌, arith, mul-le-mul_right}
use Rattle.pim_jp.proofs.Words.{take_all, flat_map-map, flat_map}

-- where all are written, they fill what had room for just them
pub items_written : {X Y : Type 0} (spell : Y → List ℕ) (seen : X → Y) (xs : List X) (i size : ℕ) (old new : List ℕ) → length xs ≤ i
    → length new ≡ length old → length old ≡ length xs * size → take (i * size) new ≡ flat_map (λ x. spell (seen x)) (take i xs)
    → new ≡ flat_map spell (map seen xs)
items_written spell seen xs i size old new past same room written =
    let far : length xs * size ≤ i * size = mul-le-mul_right size past in
    sym (take_all (i * size) new (omega (arith, far, same, room))) ∙ written
    ∙ ap (flat_map (λ x. spell (seen x))) (take_all i xs past) ∙ sym (flat_map-map spell seen xs)
