-- The faults of parts stand in the order in which they are told.
use Rattle.pim_addr.proofs.Words.{ℕ, suc, ◌<◌, List, [], ◌∷◌, ◌++◌, refl, inl, inr, arith, AllByRecursion}
use Rattle.pim_addr.specs.Order.{IsReportedBefore, FirstIsLeast, NumbersRise, OffsetsRise, places_at, places, FirstOfPartsIsLeast}

all_append : {X : Type 0} (P : X → Type 0) (xs ys : List X) → AllByRecursion P xs → AllByRecursion P ys → AllByRecursion P (xs ++ ys)
all_append P [] ys first second = second
all_append P (x ∷ xs) ys first second = (first.0, all_append P xs ys first.1 second)

-- faults at the same part, of greater numbers
after_number : (offset number least : ℕ) (numbers : List ℕ) → number < least → NumbersRise least numbers → AllByRecursion (IsReportedBefore (offset, number)) (places_at (offset, numbers))
after_number offset number least [] lt h = tt
after_number offset number least (other ∷ numbers) lt h = (inr (refl, omega (arith, h.0)), after_number offset number (suc other) numbers (omega (arith, h.0)) h.1)

-- faults at later parts
later : (offset number other : ℕ) (numbers : List ℕ) → offset < other → AllByRecursion (IsReportedBefore (offset, number)) (places_at (other, numbers))
later offset number other [] lt = tt
later offset number other (n ∷ ns) lt = (inl lt, later offset number other ns lt)

after_part : (offset number least : ℕ) (parts : List (ℕ × List ℕ)) → offset < least → OffsetsRise least parts → AllByRecursion (IsReportedBefore (offset, number)) (places parts)
after_part offset number least [] lt h = tt
after_part offset number least (part ∷ parts) lt h =
    all_append (IsReportedBefore (offset, number)) (places_at part) (places parts) (later offset number part.0 part.1 (omega (arith, h.0)))
    (after_part offset number (suc part.0) parts (omega (arith, h.0)) h.2)

first_at : (offset : ℕ) (numbers : List ℕ) (parts : List (ℕ × List ℕ)) → NumbersRise 0 numbers → OffsetsRise (suc offset) parts → FirstIsLeast (places parts)
    → FirstIsLeast (places_at (offset, numbers) ++ places parts)
first_at offset [] parts rise behind h = h
first_at offset (number ∷ numbers) parts rise behind h =
    all_append (IsReportedBefore (offset, number)) (places_at (offset, numbers)) (places parts)
    (after_number offset number (suc number) numbers (omega arith) rise.1) (after_part offset number (suc offset) parts (omega arith) behind)

first_of : (least : ℕ) (parts : List (ℕ × List ℕ)) → OffsetsRise least parts → FirstIsLeast (places parts)
first_of least [] h = tt
first_of least (part ∷ parts) h = first_at part.0 part.1 parts h.1 h.2 (first_of (suc part.0) parts h.2)

pub first_of_parts_is_least : FirstOfPartsIsLeast
first_of_parts_is_least parts h = first_of 0 parts h
