-- The front of a list of bytes, and lists of faults that are empty.
use Rattle.std.proofs.Common.{◌≡◌, ℕ, suc, ◌+◌, ◌≤◌, Bool, true, false, cond, List, [], ◌∷◌, ◌++◌, length, map, take, drop, slice_index, refl, arith}
use Rattle.pim_addr.specs.Faults.{fault_if}

-- ---- bytes by their places

pub front_two : (n : ℕ) (bytes : List ℕ) → 2 + n ≤ length bytes → take (2 + n) bytes ≡ slice_index bytes 0 ∷ slice_index bytes 1 ∷ take n (drop 2 bytes)
front_two n [] h = absurd (omega arith)
front_two n (a ∷ []) h = absurd (omega arith)
front_two n (a ∷ b ∷ bytes) h = let two : 2 + n ≡ suc (suc n) = omega arith in rw two refl

pub front_four : (n : ℕ) (bytes : List ℕ) → 4 + n ≤ length bytes → take (4 + n) bytes ≡ slice_index bytes 0 ∷ slice_index bytes 1 ∷ slice_index bytes 2 ∷ slice_index bytes 3 ∷ take n (drop 4 bytes)
front_four n [] h = absurd (omega arith)
front_four n (a ∷ []) h = absurd (omega arith)
front_four n (a ∷ b ∷ []) h = absurd (omega arith)
front_four n (a ∷ b ∷ c ∷ []) h = absurd (omega arith)
front_four n (a ∷ b ∷ c ∷ d ∷ bytes) h = let four : 4 + n ≡ suc (suc (suc (suc n))) = omega arith in rw four refl

-- ---- no faults

pub append_none : {E : Type 0} (xs ys : List E) → xs ++ ys ≡ [] → (xs ≡ []) × (ys ≡ [])
append_none [] ys h = (refl, h)
append_none (x ∷ xs) ys h = absurd cc

pub map_none : {D E : Type 0} (f : D → E) (xs : List D) → map f xs ≡ [] → xs ≡ []
map_none f [] h = refl
map_none f (x ∷ xs) h = absurd cc

pub none_if : {E : Type 0} (test : Bool) (fault : E) → fault_if test fault ≡ [] → test ≡ false
none_if true fault h = absurd cc
none_if false fault h = refl

pub none_else : {E : Type 0} (test : Bool) (fault : E) (faults : List E) → cond test (fault ∷ []) faults ≡ [] → (test ≡ false) × (faults ≡ [])
none_else true fault faults h = absurd cc
none_else false fault faults h = (refl, h)
