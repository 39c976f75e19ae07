-- A text that is written in two parts, of which the device took a front.
use Rattle.pim_trace.proofs.Words.{◌≡◌, ℕ, ◌+◌, ◌≤◌, List, ◌++◌, length, take, Option, None, Some, sym, ap, arith}
use Rattle.pim_trace.proofs.Words.{append_assoc, length-append, ◌∙◌, take-append-le, length-take, Appends, AppendsFront}

-- nothing behind the first piece was written
pub front-longer : (a b : Option (List ℕ)) (bs cs : List ℕ) → AppendsFront a b bs → AppendsFront a b (bs ++ cs)
front-longer None b bs cs p = tt
front-longer (Some xs) None bs cs p = absurd p
front-longer (Some xs) (Some ys) bs cs p =
    let short : length ys ≤ length (xs ++ bs) = omega (arith, ap length p.1 ∙ length-take (length ys) (xs ++ bs)) in
    (p.0, p.1 ∙ sym (take-append-le (length ys) (xs ++ bs) cs short) ∙ ap (take (length ys)) (append_assoc xs bs cs))

-- all of the first piece was written, and a front of the second
pub front-more : (a b c : Option (List ℕ)) (bs cs : List ℕ) → Appends a b bs → AppendsFront b c cs → AppendsFront a c (bs ++ cs)
front-more None b c bs cs p q = tt
front-more (Some xs) None c bs cs p q = absurd p
front-more (Some xs) (Some ys) None bs cs p q = absurd q
front-more (Some xs) (Some ys) (Some zs) bs cs p q =
    let long : length ys ≡ length xs + length bs = ap length p ∙ length-append xs bs in
    (omega (arith, q.0), q.1 ∙ ap (λ l. take (length zs) (l ++ cs)) p ∙ ap (take (length zs)) (append_assoc xs bs cs))
