-- A row of addresses, address by address from its front.
use Rattle.std.proofs.Common.{◌≡◌, ◌⊎◌, ℕ, zero, suc, ◌<◌, ◌≤◌, Bool, true, false, cond, eqb, ltb, not, List, [], ◌∷◌, ◌++◌, length, drop, get_or, Option, Some, None, Ok, Err, refl, sym, ap, ◌∙◌, arith, inl, inr, length-drop}
use Rattle.std.specs.Option.{option_map}
use Rattle.pim_hello.proofs.Words.{list_all, flat_map, cases_Bool, eq-eqb, eqb-true, eqb-false, ne_eqb, ltb-false, not-false}
use Rattle.pim_hello.proofs.Words.{cond-true, cond-false, AddressFamily, Ipv4, Ipv6, fault_if, judged, family_byte}
use Rattle.pim_hello.proofs.Words.{unicast_faults, unicast_length, unicast_address, begins_with, first_family, Listed, native}
use Rattle.pim_hello.proofs.Words.{other, address_then, row_within, row, is_native, is_row, if_of, addresses_of}
use Rattle.pim_addr.specs.declared.encoded.AddrFault.{AddrFault}
use Rattle.pim_addr.specs.declared.encoded.AddrFault.TheVariants.{Short, Family, Encoding}

-- ---- the bound on the number of addresses doesn't matter, once there is one for each byte

then_same : (f : Option AddressFamily) (bytes : List ℕ) (r s : List ℕ → List Listed) → ((k : ℕ) → 0 < k → r (drop k bytes) ≡ s (drop k bytes)) → address_then f bytes r ≡ address_then f bytes s
then_same None bytes r s h = refl
then_same (Some Ipv4) bytes r s h = ap (λ rest. native Ipv4 (unicast_address Ipv4 bytes) ∷ rest) (h 6 (omega arith))
then_same (Some Ipv6) bytes r s h = ap (λ rest. native Ipv6 (unicast_address Ipv6 bytes) ∷ rest) (h 18 (omega arith))

enough : (n m : ℕ) (bytes : List ℕ) → length bytes ≤ n → length bytes ≤ m → row_within n bytes ≡ row_within m bytes
unfolding row_within
enough zero zero bytes p q = refl
enough zero (suc m) bytes p q = sym (cond-true (eqb (length bytes) 0) _ _ (eq-eqb _ _ (omega arith)))
enough (suc n) zero bytes p q = cond-true (eqb (length bytes) 0) _ _ (eq-eqb _ _ (omega arith))
enough (suc n) (suc m) bytes p q =
    elim (cases_Bool (eqb (length bytes) 0)) [
      | inl e ↦ rw e refl
      | inr e ↦ rw e (then_same (first_family bytes) bytes (row_within n) (row_within m) (λ k pos. let some = eqb-false (length bytes) 0 e in enough n m (drop k bytes) (omega (arith, length-drop k bytes)) (omega (arith, length-drop k bytes))))
    ]

-- ---- the address at the front

-- what a reader's test on the front says
front_is : (short wrong_family wrong_encoding : Bool) → eqb (length (cond short (Short ∷ []) (fault_if wrong_family Family ++ fault_if wrong_encoding Encoding))) 0 ≡ true → (short ≡ false) × (wrong_family ≡ false)
front_is true true true e = absurd cc
front_is true true false e = absurd cc
front_is true false true e = absurd cc
front_is true false false e = absurd cc
front_is false true true e = absurd cc
front_is false true false e = absurd cc
front_is false false encoding e = (refl, refl)

pub front_fits : (family : AddressFamily) (bytes : List ℕ) → begins_with family bytes ≡ true → unicast_length family ≤ length bytes
front_fits Ipv4 bytes e = ltb-false _ _ (front_is (ltb (length bytes) 6) (not (eqb (get_or bytes 0 0) 1)) (not (eqb (get_or bytes 1 0) 0)) e).0
front_fits Ipv6 bytes e = ltb-false _ _ (front_is (ltb (length bytes) 18) (not (eqb (get_or bytes 0 0) 2)) (not (eqb (get_or bytes 1 0) 0)) e).0

front_byte : (family : AddressFamily) (bytes : List ℕ) → begins_with family bytes ≡ true → get_or bytes 0 0 ≡ family_byte family
front_byte Ipv4 bytes e = eqb-true _ _ (not-false _ (front_is (ltb (length bytes) 6) (not (eqb (get_or bytes 0 0) 1)) (not (eqb (get_or bytes 1 0) 0)) e).1)
front_byte Ipv6 bytes e = eqb-true _ _ (not-false _ (front_is (ltb (length bytes) 18) (not (eqb (get_or bytes 0 0) 2)) (not (eqb (get_or bytes 1 0) 0)) e).1)

-- of two tests in a row, the first that holds
chosen : (first second : Bool) (family : AddressFamily) → cond first (Some Ipv4) (cond second (Some Ipv6) None) ≡ Some family
    → ((family ≡ Ipv4) × (first ≡ true)) ⊎ ((family ≡ Ipv6) × (second ≡ true))
chosen true second family e = inl (cc, refl)
chosen false true family e = inr (cc, refl)
chosen false false family e = absurd cc

pub first_is : (bytes : List ℕ) (family : AddressFamily) → first_family bytes ≡ Some family → begins_with family bytes ≡ true
first_is bytes family e =
    elim (chosen (begins_with Ipv4 bytes) (begins_with Ipv6 bytes) family e) [
      | inl h ↦ rw h.0 h.1
      | inr h ↦ rw h.0 h.1
    ]

-- no bytes begin with an address of either family
pub one_family : (bytes : List ℕ) (family : AddressFamily) → begins_with family bytes ≡ true → first_family bytes ≡ Some family
one_family bytes Ipv4 e = cond-true _ _ _ e
one_family bytes Ipv6 e =
    elim (cases_Bool (begins_with Ipv4 bytes)) [
      | inl h ↦ absurd (omega (arith, front_byte Ipv4 bytes h, front_byte Ipv6 bytes e))
      | inr h ↦ cond-false _ _ _ h ∙ cond-true _ _ _ e
    ]

-- ---- the row, from its front

pub row_empty : (bytes : List ℕ) → length bytes ≡ 0 → row bytes ≡ []
unfolding row_within
row_empty [] e = refl
row_empty (b ∷ bs) e = absurd (omega arith)

pub row_first : (bytes : List ℕ) → 0 < length bytes → row bytes ≡ address_then (first_family bytes) bytes row
unfolding row_within
row_first [] h = absurd (omega arith)
row_first (b ∷ bs) h =
    cond-false (eqb (length (b ∷ bs)) 0) _ _ (ne_eqb _ _ (λ e. omega arith))
    ∙ then_same (first_family (b ∷ bs)) (b ∷ bs) (row_within (length bs)) row
    (λ k pos. enough (length bs) (length (drop k (b ∷ bs))) (drop k (b ∷ bs)) (omega (arith, length-drop k (b ∷ bs))) (omega arith))

-- ---- what the code learns of the front, by the size that it found

size_family : (f : Option AddressFamily) (size : ℕ) → option_map unicast_length f ≡ Some size → (family : AddressFamily) × (f ≡ Some family) × (size ≡ unicast_length family)
size_family None size e = absurd cc
size_family (Some family) size e = (family, refl, cc)

pub size_fits : (bytes : List ℕ) (size : ℕ) → option_map unicast_length (first_family bytes) ≡ Some size → size ≤ length bytes
size_fits bytes size e =
    let f = size_family (first_family bytes) size e in
    rw f.2 (front_fits f.0 bytes (first_is bytes f.0 f.1))

unicast_more : (family : AddressFamily) → 0 < unicast_length family
unicast_more Ipv4 = omega arith
unicast_more Ipv6 = omega arith

pub size_more : (bytes : List ℕ) (size : ℕ) → option_map unicast_length (first_family bytes) ≡ Some size → 0 < size
size_more bytes size e =
    let f = size_family (first_family bytes) size e in
    rw f.2 (unicast_more f.0)

pub row_at : (bytes : List ℕ) (family : AddressFamily) → first_family bytes ≡ Some family → 0 < length bytes
    → row bytes ≡ native family (unicast_address family bytes) ∷ row (drop (unicast_length family) bytes)
row_at bytes family e some = row_first bytes some ∙ ap (λ f. address_then f bytes row) e

row_more : (bytes : List ℕ) (size : ℕ) → option_map unicast_length (first_family bytes) ≡ Some size
    → (family : AddressFamily) × (begins_with family bytes ≡ true) × (row bytes ≡ native family (unicast_address family bytes) ∷ row (drop size bytes))
row_more bytes size e =
    let f = size_family (first_family bytes) size e in
    let fits = size_fits bytes size e in
    let more = size_more bytes size e in
    (f.0, first_is bytes f.0 f.1, row_at bytes f.0 f.1 (omega arith) ∙ ap (λ n. native f.0 (unicast_address f.0 bytes) ∷ row (drop n bytes)) (sym f.2))

pub is_row_more : (bytes : List ℕ) (size : ℕ) → option_map unicast_length (first_family bytes) ≡ Some size → is_row (drop size bytes) ≡ is_row bytes
is_row_more bytes size e = sym (ap (list_all is_native) (row_more bytes size e).2)

size_none : (f : Option AddressFamily) → option_map unicast_length f ≡ None → f ≡ None
size_none None e = refl
size_none (Some family) e = absurd cc

row_end : (bytes : List ℕ) → option_map unicast_length (first_family bytes) ≡ None → row bytes ≡ cond (eqb (length bytes) 0) [] (other ∷ [])
row_end bytes e =
    elim (cases_Bool (eqb (length bytes) 0)) [
      | inl h ↦ rw h (row_empty bytes (eqb-true _ _ h))
      | inr h ↦ rw h (let some = eqb-false _ _ h in row_first bytes (omega arith) ∙ ap (λ f. address_then f bytes row) (size_none (first_family bytes) e))
    ]

test_is : (b : Bool) → b ≡ list_all is_native (cond b [] (other ∷ []))
test_is true = refl
test_is false = refl

pub is_row_end : (bytes : List ℕ) → option_map unicast_length (first_family bytes) ≡ None → eqb (length bytes) 0 ≡ is_row bytes
is_row_end bytes e = rw (row_end bytes e) (test_is (eqb (length bytes) 0))

none_of : (family : AddressFamily) (b : Bool) → flat_map (if_of family) (cond b [] (other ∷ [])) ≡ []
none_of Ipv4 true = refl
none_of Ipv4 false = refl
none_of Ipv6 true = refl
none_of Ipv6 false = refl

pub addresses_end : (family : AddressFamily) (bytes : List ℕ) → option_map unicast_length (first_family bytes) ≡ None → addresses_of family bytes ≡ []
addresses_end family bytes e = rw (row_end bytes e) (none_of family (eqb (length bytes) 0))

-- ---- an address is taken if it is of the family

judged_ok : {E A : Type 0} (fs : List E) (value x : A) → judged fs value ≡ Ok x → (eqb (length fs) 0 ≡ true) × (value ≡ x)
judged_ok [] value x e = (refl, cc)
judged_ok (f ∷ fs) value x e = absurd cc

judged_err : {E A : Type 0} (fs : List E) (value : A) (f : E) → judged fs value ≡ Err f → eqb (length fs) 0 ≡ true → ⊥
judged_err [] value f e h = absurd cc
judged_err (g ∷ fs) value f e h = let n = eqb-true (length (g ∷ fs)) 0 h in omega arith

-- an address of another family is passed over
other_family : (family found : AddressFamily) (bytes address : List ℕ) → begins_with found bytes ≡ true → (begins_with family bytes ≡ true → ⊥) → if_of family (native found address) ≡ []
other_family Ipv4 Ipv4 bytes address e differs = absurd (differs e)
other_family Ipv4 Ipv6 bytes address e differs = refl
other_family Ipv6 Ipv4 bytes address e differs = refl
other_family Ipv6 Ipv6 bytes address e differs = absurd (differs e)

if_of_own : (family : AddressFamily) (address : List ℕ) → if_of family (native family address) ≡ address ∷ []
if_of_own Ipv4 address = refl
if_of_own Ipv6 address = refl

some_is : (family found : AddressFamily) (o : Option AddressFamily) → o ≡ Some family → o ≡ Some found → family ≡ found
some_is family found o e h = cc

-- what is told of the front, over what is read of it
pub address_more : {A : Type 0} (bytes_of : A → List ℕ) (family : AddressFamily) (bytes : List ℕ) (size : ℕ) (address : A)
    → option_map unicast_length (first_family bytes) ≡ Some size
    → judged (unicast_faults family bytes) (unicast_address family bytes) ≡ Ok (bytes_of address)
    → addresses_of family bytes ≡ bytes_of address ∷ addresses_of family (drop size bytes)
address_more bytes_of family bytes size address e h =
    let r = row_more bytes size e in
    let read = judged_ok (unicast_faults family bytes) (unicast_address family bytes) (bytes_of address) h in
    let own : r.0 ≡ family = some_is r.0 family (first_family bytes) (one_family bytes r.0 r.1) (one_family bytes family read.0) in
    ap (flat_map (if_of family)) r.2
    ∙ ap (λ f. if_of family (native f (unicast_address f bytes)) ++ addresses_of family (drop size bytes)) own
    ∙ ap (λ front. front ++ addresses_of family (drop size bytes)) (if_of_own family (unicast_address family bytes))
    ∙ ap (λ (a : List ℕ). a ∷ addresses_of family (drop size bytes)) read.1

pub address_passed : (family : AddressFamily) (bytes : List ℕ) (size : ℕ) (fault : AddrFault)
    → option_map unicast_length (first_family bytes) ≡ Some size
    → judged (unicast_faults family bytes) (unicast_address family bytes) ≡ Err fault
    → addresses_of family bytes ≡ addresses_of family (drop size bytes)
address_passed family bytes size fault e h =
    let r = row_more bytes size e in
    ap (flat_map (if_of family)) r.2
    ∙ ap (λ front. front ++ addresses_of family (drop size bytes)) (other_family family r.0 bytes (unicast_address r.0 bytes) r.1 (judged_err (unicast_faults family bytes) (unicast_address family bytes) fault h))

pub ruleset steps = (size_fits, size_more, is_row_more, is_row_end, addresses_end, address_more, address_passed)
