-- The first of some faults.
use Rattle.pim_jp.proofs.Words.{◌≡◌, List, [], ◌∷◌, ◌++◌, Err, judged}

-- it stays the first, whatever others come behind
pub judged_first : {E A B : Type 0} (faults others : List E) (value : A) (other : B) (fault : E) → judged faults value ≡ Err fault → judged (faults ++ others) other ≡ Err fault
judged_first [] others value other fault reported = cc
judged_first (first ∷ faults) others value other fault reported = cc
