-- The faults of a body stand in the order in which they are told.
use Rattle.pim_jp.proofs.Words.{◌≡◌, ℕ, zero, suc, ◌+◌, ◌≤◌, ◌<◌, Bool, true, false, cond, not, ◌&&◌, ltb, List, [], ◌∷◌, ◌++◌}
use Rattle.pim_jp.proofs.Words.{length, map, drop, slice_index, refl, sym, ap, subst, ◌∙◌, arith, ⊤, AllByRecursion, list_any}
use Rattle.pim_jp.proofs.Words.{map-append, big_number, AddressFamily, is_source, fault_if, SourceValue, unicast_length}
use Rattle.pim_jp.proofs.Words.{group_length, source_length, family_faults, mask_faults, unicast_faults, source_value, Entry}
use Rattle.pim_jp.proofs.Words.{JpKind, Short, NotGroup, Flags, NotSource, SecondStar, BothLists, Trailing, JpFault, is_star}
use Rattle.pim_jp.proofs.Words.{same_source, Shape, upstream, head, group, counts, entry, rest, Part, part_then, is_typeless}
use Rattle.pim_jp.proofs.Words.{entry_of_bytes, entry_parts, set_parts, body_parts, place, ReportedBefore}
use Rattle.pim_addr.specs.declared.encoded.AddrFault.{AddrFault}
use Rattle.pim_addr.specs.declared.encoded.AddrFault.TheVariants as address
use Rattle.pim_addr.specs.Order.{Place, IsReportedBefore, FirstIsLeast, NumbersRise, OffsetsRise, places_at, places, FirstOfPartsIsLeast}
use Rattle.pim_jp.specs.Faults.{number_of, address_kind, entry_kinds, kinds_at, part_faults, faults_of, faults}

-- ---- the numbers at one part rise

-- the numbers rise, from `low` on and below `high`
RisesWithin : {E : Type 0} → (E → ℕ) → ℕ → ℕ → List E → Type 0
RisesWithin number low high [] = low ≤ high
RisesWithin number low high (x ∷ xs) = (low ≤ number x) × RisesWithin number (suc (number x)) high xs

rises_lower : {E : Type 0} (number : E → ℕ) (lower low high : ℕ) (xs : List E) → lower ≤ low → RisesWithin number low high xs → RisesWithin number lower high xs
unfolding RisesWithin
rises_lower number lower low high [] le h = omega arith
rises_lower number lower low high (x ∷ xs) le h = (omega (arith, h.0), h.1)

rises_then : {E : Type 0} (number : E → ℕ) (low middle high : ℕ) (xs ys : List E) → RisesWithin number low middle xs → RisesWithin number middle high ys → RisesWithin number low high (xs ++ ys)
unfolding RisesWithin
rises_then number low middle high [] ys h behind = rises_lower number low middle high ys h behind
rises_then number low middle high (x ∷ xs) ys h behind = (h.0, rises_then number (suc (number x)) middle high xs ys h.1 behind)

rises_higher : {E : Type 0} (number : E → ℕ) (low high higher : ℕ) (xs : List E) → high ≤ higher → RisesWithin number low high xs → RisesWithin number low higher xs
unfolding RisesWithin
rises_higher number low high higher [] le h = omega arith
rises_higher number low high higher (x ∷ xs) le h = (h.0, rises_higher number (suc (number x)) high higher xs le h.1)

rises_if : {E : Type 0} (number : E → ℕ) (low high : ℕ) (test : Bool) (x : E) → low ≤ number x → number x < high → RisesWithin number low high (fault_if test x)
unfolding RisesWithin
rises_if number low high true x least most = (least, most)
rises_if number low high false x least most = omega arith

rises_else : {E : Type 0} (number : E → ℕ) (low high : ℕ) (test : Bool) (xs ys : List E) → RisesWithin number low high xs → RisesWithin number low high ys → RisesWithin number low high (cond test xs ys)
rises_else number low high true xs ys one other = one
rises_else number low high false xs ys one other = other

rises_map : (low high : ℕ) (xs : List AddrFault) → RisesWithin (λ x. number_of (address_kind x)) low high xs → RisesWithin number_of low high (map address_kind xs)
unfolding RisesWithin
rises_map low high [] h = h
rises_map low high (x ∷ xs) h = (h.0, rises_map (suc (number_of (address_kind x))) high xs h.1)

abbrev address_number : AddrFault → ℕ
address_number x = number_of (address_kind x)

family_rises : (family : AddressFamily) (bytes : List ℕ) → RisesWithin address_number 1 4 (family_faults family bytes)
family_rises family bytes =
    rises_then address_number 1 3 4 _ _ (rises_if address_number 1 3 _ address.Family (omega arith) (omega arith)) (rises_if address_number 3 4 _ address.Encoding (omega arith) (omega arith))

unicast_rises : (family : AddressFamily) (bytes : List ℕ) → RisesWithin address_number 1 5 (unicast_faults family bytes)
unicast_rises family bytes =
    rises_else address_number 1 5 _ (address.Short ∷ []) _ (rises_if address_number 1 5 true address.Short (omega arith) (omega arith)) (rises_higher address_number 1 4 5 _ (omega arith) (family_rises family bytes))

masked_rises : (family : AddressFamily) (bytes : List ℕ) → RisesWithin address_number 1 5 (family_faults family bytes ++ mask_faults family bytes)
masked_rises family bytes = rises_then address_number 1 4 5 (family_faults family bytes) _ (family_rises family bytes) (rises_if address_number 4 5 _ address.Mask (omega arith) (omega arith))

entry_rises : (family : AddressFamily) (earlier other : List (Entry (List ℕ))) (source : SourceValue) → RisesWithin number_of 6 10 (entry_kinds family earlier other source)
entry_rises family earlier other source =
    let flags = rises_if number_of 6 7 (is_typeless source) Flags (omega arith) (omega arith) in
    let invalid = rises_if number_of 7 8 (not (is_source family source.address)) NotSource (omega arith) (omega arith) in
    let again = rises_if number_of 8 9 (list_any is_star (entry_of_bytes source) && list_any is_star earlier) SecondStar (omega arith) (omega arith) in
    let twice = rises_if number_of 9 10 (list_any (λ this. list_any (same_source this) other) (entry_of_bytes source)) BothLists (omega arith) (omega arith) in
    rises_then number_of 6 9 10 _ _ (rises_then number_of 6 8 9 _ _ (rises_then number_of 6 7 8 _ _ flags invalid) again) twice

rises_none : (low high : ℕ) → low ≤ high → RisesWithin number_of low high []
unfolding RisesWithin
rises_none low high le = le

kinds_rise : (family : AddressFamily) (shape : Shape) (bytes : List ℕ) → RisesWithin number_of 1 11 (kinds_at family shape bytes)
kinds_rise family upstream bytes = rises_higher number_of 1 5 11 _ (omega arith) (rises_map 1 5 _ (unicast_rises family bytes))
kinds_rise family head bytes = rises_if number_of 1 11 _ Short (omega arith) (omega arith)
kinds_rise family group bytes =
    let form = rises_map 1 5 _ (rises_else address_number 1 5 (ltb (length bytes) (group_length family)) (address.Short ∷ []) _ (rises_if address_number 1 5 true address.Short (omega arith) (omega arith)) (masked_rises family bytes)) in
    rises_then number_of 1 5 11 _ _ form (rises_if number_of 5 11 _ NotGroup (omega arith) (omega arith))
kinds_rise family counts bytes = rises_if number_of 1 11 _ Short (omega arith) (omega arith)
kinds_rise family (entry earlier other) bytes =
    let form = rises_map 1 5 _ (rises_else address_number 1 5 (ltb (length bytes) (source_length family)) (address.Short ∷ []) _ (rises_if address_number 1 5 true address.Short (omega arith) (omega arith)) (masked_rises family bytes)) in
    let own = rises_lower number_of 5 6 11 _ (omega arith) (rises_higher number_of 6 10 11 _ (omega arith) (entry_rises family earlier other (source_value family bytes))) in
    rises_then number_of 1 5 11 _ _ form (rises_else number_of 5 11 (ltb (length bytes) (source_length family)) [] _ (rises_none 5 11 (omega arith)) own)
kinds_rise family rest bytes = rises_if number_of 1 11 _ Trailing (omega arith) (omega arith)

-- ---- the parts stand one behind the other

-- parts from an offset on, each at an offset above that of the one before
FromOn : ℕ → List Part → Type 0
FromOn at [] = ⊤
FromOn at (part ∷ parts) = (at ≤ part.at) × FromOn (suc part.at) parts

from_lower : (lower at : ℕ) (parts : List Part) → lower ≤ at → FromOn at parts → FromOn lower parts
unfolding FromOn
from_lower lower at [] le h = tt
from_lower lower at (part ∷ parts) le h = (omega (arith, h.0), h.1)

-- where the part isn't whole nothing stands behind it
cut_from : (short : Bool) (at : ℕ) (parts : List Part) → FromOn at parts → FromOn at (cond short [] parts)
unfolding FromOn
cut_from true at parts h = tt
cut_from false at parts h = h

from_then : (shape : Shape) (size at : ℕ) (bytes : List ℕ) (next : ℕ → List ℕ → List Part) → 0 < size → ((at : ℕ) (bytes : List ℕ) → FromOn at (next at bytes)) → FromOn at (part_then shape size at bytes next)
unfolding FromOn
from_then shape size at bytes next some behind =
    (omega arith, cut_from (ltb (length bytes) size) (suc at) (next (at + size) (drop size bytes)) (from_lower (suc at) (at + size) _ (omega arith) (behind (at + size) (drop size bytes))))

entries_from : (family : AddressFamily) (count : ℕ) (earlier other : List (Entry (List ℕ))) (at : ℕ) (bytes : List ℕ) (next : List (Entry (List ℕ)) → ℕ → List ℕ → List Part)
    → ((entries : List (Entry (List ℕ))) (at : ℕ) (bytes : List ℕ) → FromOn at (next entries at bytes)) → FromOn at (entry_parts family count earlier other at bytes next)
unfolding entry_parts
entries_from family zero earlier other at bytes next behind = behind earlier at bytes
entries_from family (suc count) earlier other at bytes next behind =
    from_then (entry earlier other) (source_length family) at bytes (λ at bytes'. entry_parts family count (earlier ++ entry_of_bytes (source_value family bytes)) other at bytes' next) (omega arith)
    (λ at bytes'. entries_from family count (earlier ++ entry_of_bytes (source_value family bytes)) other at bytes' next behind)

from_one : (shape : Shape) (at : ℕ) (bytes : List ℕ) → FromOn at (record { shape = shape; at = at; bytes = bytes } ∷ [])
unfolding FromOn
from_one shape at bytes = (omega arith, tt)

sets_from : (family : AddressFamily) (count at : ℕ) (bytes : List ℕ) → FromOn at (set_parts family count at bytes)
unfolding set_parts
sets_from family zero at bytes = from_one rest at bytes
sets_from family (suc count) at bytes =
    from_then group (group_length family) at bytes _ (omega arith) (λ at bytes. from_then counts 4 at bytes _ (omega arith) (λ at entries.
    entries_from family (big_number 2 bytes) [] [] at entries _ (λ joined at entries.
    entries_from family (big_number 2 (drop 2 bytes)) joined joined at entries _ (λ _ at bytes. sets_from family count at bytes))))

body_from : (family : AddressFamily) (body : List ℕ) → FromOn 0 (body_parts family body)
body_from family body =
    from_then upstream (unicast_length family) 0 body _ (omega arith) (λ at bytes. from_then head 4 at bytes _ (omega arith) (λ at sets. sets_from family (slice_index bytes 1) at sets))

-- ---- the faults, as the order sees them

-- a part as the order sees it
abbrev numbered : AddressFamily → Part → ℕ × List ℕ
numbered family part = (part.at, map number_of (kinds_at family part.shape part.bytes))

numbers_rise : (least low high : ℕ) (kinds : List JpKind) → least ≤ low → RisesWithin number_of low high kinds → NumbersRise least (map number_of kinds)
unfolding RisesWithin
numbers_rise least low high [] le h = tt
numbers_rise least low high (kind ∷ kinds) le h = (omega (arith, h.0), numbers_rise (suc (number_of kind)) (suc (number_of kind)) high kinds (omega arith) h.1)

offsets_rise : (family : AddressFamily) (least : ℕ) (parts : List Part) → FromOn least parts → OffsetsRise least (map (numbered family) parts)
unfolding FromOn
offsets_rise family least [] h = tt
offsets_rise family least (part ∷ parts) h =
    (h.0, numbers_rise 0 1 11 (kinds_at family part.shape part.bytes) (omega arith) (kinds_rise family part.shape part.bytes), offsets_rise family (suc part.at) parts h.1)

places_of_kinds : (at : ℕ) (kinds : List JpKind) → map place (map (λ (kind : JpKind). record { at = at; kind = kind }) kinds) ≡ places_at (at, map number_of kinds)
places_of_kinds at [] = refl
places_of_kinds at (kind ∷ kinds) = ap (λ (others : List Place). (at, number_of kind) ∷ others) (places_of_kinds at kinds)

places_of_parts : (family : AddressFamily) (parts : List Part) → map place (faults_of family parts) ≡ places (map (numbered family) parts)
places_of_parts family [] = refl
places_of_parts family (part ∷ parts) =
    map-append place (part_faults family part) (faults_of family parts)
    ∙ ap (λ (others : List Place). others ++ map place (faults_of family parts)) (places_of_kinds part.at (kinds_at family part.shape part.bytes))
    ∙ ap (λ (others : List Place). places_at (numbered family part) ++ others) (places_of_parts family parts)

told_before : (first : JpFault) (others : List JpFault) → AllByRecursion (IsReportedBefore (place first)) (map place others) → AllByRecursion (ReportedBefore first) others
told_before first [] h = tt
told_before first (other ∷ others) h = (h.0, told_before first others h.1)

pub first_of_faults : FirstOfPartsIsLeast → (family : AddressFamily) (body : List ℕ) (first : JpFault) (others : List JpFault) → faults family body ≡ first ∷ others → AllByRecursion (ReportedBefore first) others
first_of_faults law family body first others e =
    let rise : OffsetsRise 0 (map (numbered family) (body_parts family body)) = offsets_rise family 0 (body_parts family body) (body_from family body) in
    let least : FirstIsLeast (places (map (numbered family) (body_parts family body))) = law (map (numbered family) (body_parts family body)) rise in
    told_before first others (subst FirstIsLeast (sym (places_of_parts family (body_parts family body)) ∙ ap (map place) e) least)
