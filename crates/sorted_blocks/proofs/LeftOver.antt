-- What an edit leaves of a block whose first items are left over.
use Rattle.sorted_blocks.proofs.Words.{◌≡◌, ℕ, ◌+◌, ◌-◌, ◌≤◌, List, length, take, drop, ap, sym, ◌∙◌, arith, insert, drop-take, drop_at, length-take-le, take-append-drop, insert-append_right}

pub insert_beyond : {X : Type 0} (start at : ℕ) (xs : List X) (y : X) → start ≤ length xs → drop start (insert xs (start + at) y) ≡ insert (drop start xs) at y
insert_beyond start at xs y within =
    let len : length (take start xs) ≡ start = length-take-le start xs within in
    let apart = insert-append_right (take start xs) (drop start xs) start (start + at) y len (omega arith) in
    let same : start + at - start ≡ at = omega arith in
    ap (drop start) (ap (λ zs. insert zs (start + at) y) (sym (take-append-drop start xs)) ∙ apart) ∙ drop_at (take start xs) _ start len ∙ ap (λ n. insert (drop start xs) n y) same

pub take_beyond : {X : Type 0} (start count : ℕ) (xs : List X) → drop start (take (start + count) xs) ≡ take count (drop start xs)
take_beyond start count xs = drop-take start count xs
