-- An encoded address that has no fault is spelled at the front of the bytes, and one that is spelled there has none.
use Rattle.std.proofs.Common.{◌≡◌, ℕ, suc, ◌+◌, ◌≤◌, Bool, true, false, eqb, ltb, List, [], ◌∷◌, ◌++◌, length, take, drop, slice_index, refl, sym, ap, ◌∙◌, arith, length-append, length-drop, length-take-le}
use Rattle.std.proofs.lemmas.Bool.{ltb-false, le-ltb, eqb-true, eq-eqb, not-false}
use Rattle.std.proofs.lemmas.List.{take_at}
use Rattle.pim_addr.specs.declared.family.AddressFamily.{AddressFamily}
use Rattle.pim_addr.specs.Address.{address_length, mask_length, family_byte}
use Rattle.pim_addr.specs.Encoded.{SourceValue, IsUnicast, IsGroup, IsSource, unicast_length, group_length, source_length, family_faults, mask_faults, unicast_faults, group_faults, source_faults, unicast_address, masked_address, source_value, wildcard_bit, rpt_bit}
use Rattle.pim_jp.proofs.Front.{front_two, front_four, append_none, none_if, none_else}

-- ---- without a fault it is spelled

no_family_fault : (family : AddressFamily) (bytes : List ℕ) → family_faults family bytes ≡ [] → (slice_index bytes 0 ≡ family_byte family) × (slice_index bytes 1 ≡ 0)
no_family_fault family bytes h =
    let parts = append_none _ _ h in
    (eqb-true _ _ (not-false _ (none_if _ _ parts.0)), eqb-true _ _ (not-false _ (none_if _ _ parts.1)))

pub unicast_legal : (family : AddressFamily) (bytes : List ℕ) → unicast_faults family bytes ≡ []
    → (unicast_length family ≤ length bytes) × IsUnicast family (unicast_address family bytes) (take (unicast_length family) bytes)
unicast_legal family bytes h =
    let parts = none_else _ _ _ h in
    let long : 2 + address_length family ≤ length bytes = ltb-false _ _ parts.0 in
    let fields = no_family_fault family bytes parts.1 in
    let front = front_two (address_length family) bytes long in
    (long, (length-take-le (address_length family) (drop 2 bytes) (omega (arith, length-drop 2 bytes)), cc))

masked_legal : (family : AddressFamily) (bytes : List ℕ) → 4 + address_length family ≤ length bytes → family_faults family bytes ++ mask_faults family bytes ≡ []
    → (length (masked_address family bytes) ≡ address_length family) × (take (4 + address_length family) bytes ≡ family_byte family ∷ 0 ∷ slice_index bytes 2 ∷ mask_length family ∷ masked_address family bytes)
masked_legal family bytes long h =
    let parts = append_none _ _ h in
    let fields = no_family_fault family bytes parts.0 in
    let mask : slice_index bytes 3 ≡ mask_length family = eqb-true _ _ (not-false _ (none_if _ _ parts.1)) in
    let front = front_four (address_length family) bytes long in
    (length-take-le (address_length family) (drop 4 bytes) (omega (arith, length-drop 4 bytes)), cc)

-- the free byte of a form stands there as it stands in the bytes
free_byte : (family : AddressFamily) (bytes : List ℕ) (first address : List ℕ) → first ≡ family_byte family ∷ 0 ∷ slice_index bytes 2 ∷ mask_length family ∷ address → slice_index first 2 ≡ slice_index bytes 2
free_byte family bytes first address h = ap (λ (xs : List ℕ). slice_index xs 2) h

pub group_legal : (family : AddressFamily) (bytes : List ℕ) → group_faults family bytes ≡ []
    → (group_length family ≤ length bytes) × IsGroup family (masked_address family bytes) (take (group_length family) bytes)
group_legal family bytes h =
    let parts = none_else _ _ _ h in
    let long : 4 + address_length family ≤ length bytes = ltb-false _ _ parts.0 in
    let form = masked_legal family bytes long parts.1 in
    let free = free_byte family bytes _ _ form.1 in
    (long, (form.0, rw free form.1))

pub source_legal : (family : AddressFamily) (bytes : List ℕ) → source_faults family bytes ≡ []
    → (source_length family ≤ length bytes) × IsSource family (source_value family bytes) (take (source_length family) bytes)
source_legal family bytes h =
    let parts = none_else _ _ _ h in
    let long : 4 + address_length family ≤ length bytes = ltb-false _ _ parts.0 in
    let form = masked_legal family bytes long parts.1 in
    let free = free_byte family bytes _ _ form.1 in
    (long, (form.0, rw free form.1, ap wildcard_bit (sym free), ap rpt_bit (sym free)))

-- ---- what is spelled has no fault, and is read back

same_source_value : (a b : List ℕ) (c d e f : Bool) → a ≡ b → c ≡ d → e ≡ f → Path SourceValue (record { address = a; wildcard = c; rpt = e }) (record { address = b; wildcard = d; rpt = f })
same_source_value a b c d e f p q r = cc

-- the family byte is itself
is_itself : (n : ℕ) → eqb n n ≡ true
is_itself n = eq-eqb n n refl

pub unicast_spelled : (family : AddressFamily) (address first rest : List ℕ) → IsUnicast family address first
    → (unicast_faults family (first ++ rest) ≡ []) × (unicast_address family (first ++ rest) ≡ address) × (length first ≡ unicast_length family)
unicast_spelled family address first rest h =
    let long : ltb (suc (suc (length (address ++ rest)))) (2 + address_length family) ≡ false = le-ltb _ _ (omega (arith, length-append address rest, h.0)) in
    let legal : unicast_faults family (family_byte family ∷ 0 ∷ address ++ rest) ≡ [] = rw (long, is_itself (family_byte family)) refl in
    let read : unicast_address family (family_byte family ∷ 0 ∷ address ++ rest) ≡ address = take_at address rest (address_length family) h.0 in
    let size : suc (suc (length address)) ≡ unicast_length family = omega (arith, h.0) in
    rw h.1 (legal, read, size)

group_at : (family : AddressFamily) (address rest : List ℕ) (free : ℕ) → length address ≡ address_length family
    → (group_faults family (family_byte family ∷ 0 ∷ free ∷ mask_length family ∷ address ++ rest) ≡ []) × (masked_address family (family_byte family ∷ 0 ∷ free ∷ mask_length family ∷ address ++ rest) ≡ address)
group_at family address rest free h =
    let long : ltb (suc (suc (suc (suc (length (address ++ rest)))))) (4 + address_length family) ≡ false = le-ltb _ _ (omega (arith, length-append address rest, h)) in
    (rw (long, is_itself (family_byte family), is_itself (mask_length family)) refl, take_at address rest (address_length family) h)

masked_size : (family : AddressFamily) (address : List ℕ) → length address ≡ address_length family → suc (suc (suc (suc (length address)))) ≡ 4 + address_length family
masked_size family address h = omega (arith, h)

pub group_spelled : (family : AddressFamily) (address first rest : List ℕ) → IsGroup family address first
    → (group_faults family (first ++ rest) ≡ []) × (masked_address family (first ++ rest) ≡ address) × (length first ≡ group_length family)
group_spelled family address first rest h =
    let at = group_at family address rest (slice_index first 2) h.0 in
    let size = masked_size family address h.0 in
    (ap (λ (xs : List ℕ). group_faults family (xs ++ rest)) h.1 ∙ at.0, ap (λ (xs : List ℕ). masked_address family (xs ++ rest)) h.1 ∙ at.1, ap (λ (xs : List ℕ). length xs) h.1 ∙ size)

source_at : (family : AddressFamily) (source : SourceValue) (rest : List ℕ) (flags : ℕ) → length source.address ≡ address_length family → source.wildcard ≡ wildcard_bit flags → source.rpt ≡ rpt_bit flags
    → (source_faults family (family_byte family ∷ 0 ∷ flags ∷ mask_length family ∷ source.address ++ rest) ≡ []) × (source_value family (family_byte family ∷ 0 ∷ flags ∷ mask_length family ∷ source.address ++ rest) ≡ source)
source_at family source rest flags h wildcard rpt =
    let long : ltb (suc (suc (suc (suc (length (source.address ++ rest)))))) (4 + address_length family) ≡ false = le-ltb _ _ (omega (arith, length-append source.address rest, h)) in
    let address : take (address_length family) (source.address ++ rest) ≡ source.address = take_at source.address rest (address_length family) h in
    (rw (long, is_itself (family_byte family), is_itself (mask_length family)) refl, same_source_value _ _ _ _ _ _ address (sym wildcard) (sym rpt))

pub source_spelled : (family : AddressFamily) (source : SourceValue) (first rest : List ℕ) → IsSource family source first
    → (source_faults family (first ++ rest) ≡ []) × (source_value family (first ++ rest) ≡ source) × (length first ≡ source_length family)
source_spelled family source first rest h =
    let at = source_at family source rest (slice_index first 2) h.0 h.2 h.3 in
    let size = masked_size family source.address h.0 in
    (ap (λ (xs : List ℕ). source_faults family (xs ++ rest)) h.1 ∙ at.0, ap (λ (xs : List ℕ). source_value family (xs ++ rest)) h.1 ∙ at.1, ap (λ (xs : List ℕ). length xs) h.1 ∙ size)
