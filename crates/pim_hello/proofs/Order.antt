-- The parts of a body stand one behind the other, and the kinds at each in the order of their numbers.
use Rattle.std.proofs.Common.{◌≡◌, ℕ, zero, suc, ◌+◌, ◌≤◌, Bool, true, false, cond, not, ◌&&◌, List, [], ◌∷◌, ◌++◌, length, map, refl, sym, ap, subst, ◌∙◌, arith}
use Rattle.pim_hello.proofs.Words.{◌==◌, AllByRecursion, map-append, fault_if, OptionLength, Address, HelloFault, Content, whole}
use Rattle.pim_hello.proofs.Words.{partial, content_at, Part, part_then, parts_within, parts, value_length, behind_option, is_row}
use Rattle.pim_hello.proofs.Words.{number_of, has_other_length, kinds_at, part_faults, faults_of, faults, place, ReportedBefore}
use Rattle.pim_addr.specs.Order.{Place, IsReportedBefore, FirstIsLeast, NumbersRise, OffsetsRise, places_at, places, FirstOfPartsIsLeast}
use Rattle.pim_hello.specs.declared.fault.HelloKind.{HelloKind}

-- a part as the order sees it
abbrev numbered : Part → ℕ × List ℕ
numbered part = (part.at, map number_of (kinds_at part.content))

kinds_rise : (other_length no_row : Bool) → NumbersRise 0 (map number_of (fault_if other_length OptionLength ++ fault_if no_row Address))
kinds_rise true true = (omega arith, (omega arith, tt))
kinds_rise true false = (omega arith, tt)
kinds_rise false true = (omega arith, tt)
kinds_rise false false = tt

then_rise : (least at : ℕ) (content : Content) (others : List Part) → least ≤ at → OffsetsRise (suc at) (map numbered others) → OffsetsRise least (map numbered (part_then at content others))
then_rise least at (whole type_code value) others le h = (le, kinds_rise (has_other_length type_code value) (type_code == 24 && not (is_row value)), h)
then_rise least at partial others le h = (le, (omega arith, tt), tt)

else_rise : (least : ℕ) (test : Bool) (parts : List Part) → OffsetsRise least (map numbered parts) → OffsetsRise least (map numbered (cond test [] parts))
else_rise least true parts h = tt
else_rise least false parts h = h

parts_rise : (least count at : ℕ) (bytes : List ℕ) → least ≤ at → OffsetsRise least (map numbered (parts_within count at bytes))
unfolding parts_within
parts_rise least zero at bytes le = tt
parts_rise least (suc count) at bytes le =
    else_rise least (length bytes == 0) (part_then at (content_at bytes) (parts_within count (at + (4 + value_length bytes)) (behind_option bytes)))
    (then_rise least at (content_at bytes) (parts_within count (at + (4 + value_length bytes)) (behind_option bytes)) le
    (parts_rise (suc at) count (at + (4 + value_length bytes)) (behind_option bytes) (omega arith)))

-- ---- the faults, as the order sees them

places_of_kinds : (at : ℕ) (kinds : List HelloKind) → map place (map (λ (kind : HelloKind). record { at = at; kind = kind }) kinds) ≡ places_at (at, map number_of kinds)
places_of_kinds at [] = refl
places_of_kinds at (kind ∷ kinds) = ap (λ (others : List Place). (at, number_of kind) ∷ others) (places_of_kinds at kinds)

places_of_parts : (ps : List Part) → map place (faults_of ps) ≡ places (map numbered ps)
places_of_parts [] = refl
places_of_parts (part ∷ ps) =
    map-append place (part_faults part) (faults_of ps)
    ∙ ap (λ (others : List Place). others ++ map place (faults_of ps)) (places_of_kinds part.at (kinds_at part.content))
    ∙ ap (λ (others : List Place). places_at (numbered part) ++ others) (places_of_parts ps)

told_before : (first : HelloFault) (others : List HelloFault) → AllByRecursion (IsReportedBefore (place first)) (map place others) → AllByRecursion (ReportedBefore first) others
told_before first [] h = tt
told_before first (other ∷ others) h = (h.0, told_before first others h.1)

pub first_of_faults : FirstOfPartsIsLeast → (body : List ℕ) (first : HelloFault) (others : List HelloFault) → faults body ≡ first ∷ others → AllByRecursion (ReportedBefore first) others
first_of_faults law body first others e =
    let least : FirstIsLeast (places (map numbered (parts body))) = law (map numbered (parts body)) (parts_rise 0 (length body) 0 body (omega arith)) in
    told_before first others (subst FirstIsLeast (sym (places_of_parts (parts body)) ∙ ap (map place) e) least)
