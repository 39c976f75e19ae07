-- What is parsed of digits that are a decimal.
use Rattle.pim_text.proofs.Words.{◌≡◌, ◌∙◌, sym, ap, ℕ, ◌<◌, ◌≤◌, ◌^◌, Bool, false, List, Result, Ok, Err, decimal}
use Rattle.pim_text.proofs.Words.{arith, bytes_eq, ParsesUnsigned, false≢true, parse-decimal}
use Rattle.std.proofs.lemmas.Slice.Eq.{bytes_eq-Decides}

pub parsed : {E : Type 0} (n limit : ℕ) (digits text : List ℕ) (r : Result ℕ E) → n ≤ limit → limit < 2 ^ 64 → digits ≡ decimal n → text ≡ digits → ParsesUnsigned 64 10 text r → r ≡ Ok n
parsed n limit digits text r small fits is same reported = parse-decimal 64 n text r (omega arith) (omega arith) (same ∙ is) reported

pub same_ok : {A E : Type 0} (a b : A) (r : Result A E) → r ≡ Ok a → r ≡ Ok b → a ≡ b
same_ok {A = A} {E = E} a b r one other = ap (λ q. by q) (sym one ∙ other)
  where
    by : Result A E → A
    by (Ok x) = x
    by (Err x) = a

pub written_again : (digits written : List ℕ) (r : Bool) → r ≡ bytes_eq written digits → written ≡ digits → r ≡ false → ⊥
written_again digits written r reported same not_so = false≢true (sym not_so ∙ (reported ∙ (bytes_eq-Decides written digits).1 same))
