-- What devices moved in several calls, one after the other.
use Rattle.std.proofs.Common.{◌≡◌, ℕ, ◌+◌, List, ◌++◌, length, take, drop, Option, sym, ap, ◌∙◌, subst}
use Rattle.std.proofs.KnownBytes.{Appends-trans, Consumes-trans}
use Rattle.std.proofs.Math.Seq.{take-add, take-append-add}
use Rattle.std.specs.Io.KnownBytes.{Appends, Consumes}

-- ---- one step of a loop

pub Appends-step : (a b c : Option (List ℕ)) (bs rest : List ℕ) (taken more : ℕ) → rest ≡ drop taken bs → Appends a b (take taken bs) → Appends b c (take more rest)
    → Appends a c (take (taken + more) bs)
Appends-step a b c bs rest taken more is_rest first second =
    subst (Appends a c) (ap (λ l. take taken bs ++ take more l) is_rest ∙ sym (take-add taken more bs)) (Appends-trans a b c _ _ first second)

pub Consumes-step : (a b c : Option (List ℕ)) (buffer front rest : List ℕ) (got more : ℕ) → front ≡ take got buffer → length front ≡ got → Consumes a b (take got buffer) → Consumes b c (take more rest)
    → Consumes a c (take (got + more) (front ++ rest))
Consumes-step a b c buffer front rest got more is_front count first second =
    subst (Consumes a c) (ap (λ l. l ++ take more rest) (sym is_front) ∙ sym (ap (λ n. take (n + more) (front ++ rest)) (sym count) ∙ take-append-add front rest more))
    (Consumes-trans a b c _ _ first second)
