-- The order of the faults of a message body: by the offset of the part, and within a part by
-- number.
use Rattle.std.specs.Prelude.{◌≡◌, ℕ, suc, ◌<◌, ◌≤◌, ◌⊎◌, List, [], ◌∷◌, map, ⊤}
use Rattle.std.specs.List.{AllByRecursion, flat_map}

-- A fault as the order sees it: the offset of its part in the body, and its number.
abbrev pub Place : Type 0
Place = ℕ × ℕ

-- The first fault comes before the other: at a lower offset, or at the same offset with a lower
-- number.
abbrev pub IsReportedBefore : Place → Place → Type 0
IsReportedBefore first other = (first.0 < other.0) ⊎ ((first.0 ≡ other.0) × (first.1 < other.1))

-- The first fault of the list comes before each of the others.
abbrev pub FirstIsLeast : List Place → Type 0
FirstIsLeast [] = ⊤
FirstIsLeast (first ∷ others) = AllByRecursion (IsReportedBefore first) others

-- The numbers of the faults of one part ascend, from `least` on.
abbrev pub NumbersRise : ℕ → List ℕ → Type 0
NumbersRise least [] = ⊤
NumbersRise least (number ∷ numbers) = (least ≤ number) × NumbersRise (suc number) numbers

-- The parts of a body, each an offset with the numbers of its faults. The offsets ascend from
-- `least` on, and the numbers of each part ascend.
abbrev pub OffsetsRise : ℕ → List (ℕ × List ℕ) → Type 0
OffsetsRise least [] = ⊤
OffsetsRise least (part ∷ parts) = (least ≤ part.0) × NumbersRise 0 part.1 × OffsetsRise (suc part.0) parts

-- The faults of one part.
abbrev pub places_at : ℕ × List ℕ → List Place
places_at part = map (λ number. (part.0, number)) part.1

-- The faults of all the parts, in order.
abbrev pub places : List (ℕ × List ℕ) → List Place
places parts = flat_map places_at parts

-- Of parts in order, the first fault that is listed comes before each of the others.
abbrev pub FirstOfPartsIsLeast : Type 0
FirstOfPartsIsLeast = (parts : List (ℕ × List ℕ)) → OffsetsRise 0 parts → FirstIsLeast (places parts)
