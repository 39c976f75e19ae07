-- What went out in several writes, one after the other.
use Rattle.pim_emit.proofs.Words.{◌≡◌, ◌∙◌, ℕ, ◌+◌, ◌-◌, ◌≤◌, List, ◌++◌, length, take, drop, Option, sym, ap, subst}
use Rattle.pim_emit.proofs.Words.{arith, Appends-trans, take-add, take-append-add, take-length, Appends}

pub one_write_more : (a b c : Option (List ℕ)) (bs rest : List ℕ) (taken more : ℕ) → rest ≡ drop taken bs → Appends a b (take taken bs) → Appends b c (take more rest)
    → Appends a c (take (taken + more) bs)
one_write_more a b c bs rest taken more is_rest first second =
    subst (Appends a c) (ap (λ l. take taken bs ++ take more l) is_rest ∙ sym (take-add taken more bs)) (Appends-trans a b c _ _ first second)

-- a head and, behind it, some of what follows
pub head_and_some : (a b c : Option (List ℕ)) (head message : List ℕ) (before between after : ℕ) → between ≡ before + length head → between ≤ after
    → Appends a b (take (between - before) head) → Appends b c (take (after - between) message) → Appends a c (take (after - before) (head ++ message))
head_and_some a b c head message before between after whole rises first second =
    let count : between - before ≡ length head = omega (arith, whole) in
    let sum : after - before ≡ length head + (after - between) = omega (arith, whole, rises) in
    let all : take (between - before) head ≡ head = ap (λ n. take n head) count ∙ take-length head in
    subst (Appends a c) (ap (λ l. l ++ take (after - between) message) all ∙ sym (take-append-add head message (after - between)) ∙ ap (λ n. take n (head ++ message)) (sym sum))
    (Appends-trans a b c _ _ first second)
