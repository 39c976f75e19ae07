-- Bytes in a buffer.
use Rattle.std.proofs.Common.{◌≡◌, ℕ, List, ◌++◌, length, take, sym, ap, ◌∙◌, append_assoc}
use Rattle.std.proofs.lemmas.List.{take_at}

-- what was written up to its end
pub written : (front bytes rest : List ℕ) (end : ℕ) → length (front ++ bytes) ≡ end → take end (front ++ (bytes ++ rest)) ≡ front ++ bytes
written front bytes rest end e = ap (take end) (sym (append_assoc front bytes rest)) ∙ take_at (front ++ bytes) rest end e
