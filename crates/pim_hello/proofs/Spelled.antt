-- The addresses of a row, written.
use Rattle.pim_hello.proofs.Words.{◌≡◌, ℕ, zero, suc, ◌+◌, ◌-◌, ◌*◌, ◌<◌, ◌≤◌, eqb, List, [], ◌∷◌, ◌++◌, length, take}
use Rattle.pim_hello.proofs.Words.{drop, Option, Some, None, refl, sym, ap, subst, ◌∙◌, append_assoc, arith, inl, inr}
use Rattle.pim_hello.proofs.Words.{length-drop, length-append, flat_map, cases_Bool, length-take, take_at, big_bytes}
use Rattle.pim_hello.proofs.Words.{AddressFamily, Ipv4, Ipv6, address_length, unicast_length, unicast_address}
use Rattle.pim_hello.proofs.Words.{first_family, Listed, native, address_then, row_within, if_of, addresses_of}
use Rattle.pim_hello.proofs.Words.{address_spelled, row_spelled, AreAddresses, row_there, if_there}
use Rattle.pim_hello.proofs.Rows.{front_fits, first_is}

-- addresses of the family's length, that take no more than so many bytes
record Held (family : AddressFamily) (limit : ℕ) (addresses : List (List ℕ)) : Type 0 where
  long : AreAddresses family addresses
  inside : length (row_spelled family addresses) ≤ limit

none_held : (family : AddressFamily) (limit : ℕ) → Held family limit []
unfolding AreAddresses
none_held family limit = record { long = tt; inside = omega arith }

one_more : (family : AddressFamily) (limit less : ℕ) (address : List ℕ) (others : List (List ℕ)) → length address ≡ address_length family → less + unicast_length family ≤ limit
    → Held family less others → Held family limit (address ∷ others)
unfolding AreAddresses
one_more family limit less address others e room held = record { long = (e, held.long); inside = omega (arith, length-append (address_spelled family address) (row_spelled family others), held.inside) }

weaker : (family : AddressFamily) (limit less : ℕ) (others : List (List ℕ)) → less ≤ limit → Held family less others → Held family limit others
weaker family limit less others h held = record { long = held.long; inside = omega (arith, held.inside) }

front_held : (family found : AddressFamily) (bytes : List ℕ) (rest : List Listed) → unicast_length found ≤ length bytes
    → Held family (length bytes - unicast_length found) (flat_map (if_of family) rest)
    → Held family (length bytes) (flat_map (if_of family) (native found (unicast_address found bytes) ∷ rest))
front_held Ipv4 Ipv4 bytes rest fits held = one_more Ipv4 _ _ _ _ (omega (arith, length-take 4 (drop 2 bytes), length-drop 2 bytes)) (omega arith) held
front_held Ipv4 Ipv6 bytes rest fits held = weaker Ipv4 _ _ _ (omega arith) held
front_held Ipv6 Ipv4 bytes rest fits held = weaker Ipv6 _ _ _ (omega arith) held
front_held Ipv6 Ipv6 bytes rest fits held = one_more Ipv6 _ _ _ _ (omega (arith, length-take 16 (drop 2 bytes), length-drop 2 bytes)) (omega arith) held

then_held : (family : AddressFamily) (f : Option AddressFamily) (bytes : List ℕ) (next : List ℕ → List Listed)
    → ((found : AddressFamily) → f ≡ Some found → unicast_length found ≤ length bytes)
    → ((found : AddressFamily) → Held family (length bytes - unicast_length found) (flat_map (if_of family) (next (drop (unicast_length found) bytes))))
    → Held family (length bytes) (flat_map (if_of family) (address_then f bytes next))
then_held Ipv4 None bytes next fits held = none_held Ipv4 (length bytes)
then_held Ipv6 None bytes next fits held = none_held Ipv6 (length bytes)
then_held family (Some found) bytes next fits held = front_held family found bytes (next (drop (unicast_length found) bytes)) (fits found refl) (held found)

within_held : (family : AddressFamily) (n : ℕ) (bytes : List ℕ) → Held family (length bytes) (flat_map (if_of family) (row_within n bytes))
unfolding row_within
within_held family zero bytes = none_held family (length bytes)
within_held family (suc n) bytes =
    elim (cases_Bool (eqb (length bytes) 0)) [
      | inl e ↦ rw e (none_held family (length bytes))
      | inr e ↦ rw e (then_held family (first_family bytes) bytes (row_within n)
          (λ found is. front_fits found bytes (first_is bytes found is))
          (λ found. weaker family _ (length (drop (unicast_length found) bytes)) _ (omega (arith, length-drop (unicast_length found) bytes)) (within_held family n (drop (unicast_length found) bytes))))
    ]

pub are_addresses : (family : AddressFamily) (bytes : List ℕ) → AreAddresses family (addresses_of family bytes)
are_addresses family bytes = (within_held family (length bytes) bytes).long

pub row_inside : (family : AddressFamily) (bytes : List ℕ) → length (row_spelled family (addresses_of family bytes)) ≤ length bytes
row_inside family bytes = (within_held family (length bytes) bytes).inside

pub row_size : (family : AddressFamily) (addresses : List (List ℕ)) → AreAddresses family addresses → length (row_spelled family addresses) ≡ length addresses * unicast_length family
unfolding AreAddresses
row_size family [] all = omega arith
row_size family (address ∷ others) all = omega (arith, length-append (address_spelled family address) (row_spelled family others), row_size family others all.1, all.0)

pub held_size : (family : AddressFamily) (bytes : List ℕ) → length (addresses_of family bytes) * unicast_length family ≡ length (row_spelled family (addresses_of family bytes))
held_size family bytes = sym (row_size family (addresses_of family bytes) (are_addresses family bytes))

pub held_inside : (family : AddressFamily) (bytes : List ℕ) → length (addresses_of family bytes) * unicast_length family ≤ length bytes
held_inside family bytes = omega (arith, held_size family bytes, row_inside family bytes)

pub held_count : (family : AddressFamily) (bytes : List ℕ) → length (addresses_of family bytes) ≤ length bytes
held_count Ipv4 bytes = omega (arith, held_inside Ipv4 bytes)
held_count Ipv6 bytes = omega (arith, held_inside Ipv6 bytes)

first_of_all : (family : AddressFamily) (address : List ℕ) (all others : List (List ℕ)) → all ≡ address ∷ others → AreAddresses family all → length address ≡ address_length family
unfolding AreAddresses
first_of_all family address all others e long = let p = subst (AreAddresses family) e long in p.0

pub first_size : (family : AddressFamily) (bytes address : List ℕ) (others : List (List ℕ)) → addresses_of family bytes ≡ address ∷ others
    → length (row_spelled family (addresses_of family bytes)) ≡ unicast_length family + length (row_spelled family others)
first_size family bytes address others e =
    let long = first_of_all family address (addresses_of family bytes) others e (are_addresses family bytes) in
    ap (λ (all : List (List ℕ)). length (row_spelled family all)) e ∙ omega (arith, long, length-append (address_spelled family address) (row_spelled family others))

pub first_length : (family : AddressFamily) (bytes address : List ℕ) (others : List (List ℕ)) → addresses_of family bytes ≡ address ∷ others → length (address_spelled family address) ≡ unicast_length family
first_length family bytes address others e =
    let long = first_of_all family address (addresses_of family bytes) others e (are_addresses family bytes) in omega (arith, long)

-- two pieces in front of a third
pub take_two : (n m : ℕ) (xs ys zs : List ℕ) → length xs ≡ n → length ys ≡ m → take (n + m) (xs ++ (ys ++ zs)) ≡ xs ++ ys
take_two n m xs ys zs p q =
    ap (λ (all : List ℕ). take (n + m) all) (sym (append_assoc xs ys zs))
    ∙ ap (λ (k : ℕ). take k ((xs ++ ys) ++ zs)) (omega (arith, length-append xs ys))
    ∙ take_at (xs ++ ys) zs (length (xs ++ ys)) refl

-- an Address List stands there exactly where its row has bytes
pub list_absent : (family : AddressFamily) (addresses : List (List ℕ)) → length (row_spelled family addresses) ≡ 0 → if_there 24 (row_there family addresses) ≡ []
list_absent family [] e = refl
list_absent family (address ∷ others) e = absurd (omega (arith, length-append (address_spelled family address) (row_spelled family others)))

pub list_there : (family : AddressFamily) (addresses : List (List ℕ)) → 0 < length (row_spelled family addresses)
    → if_there 24 (row_there family addresses) ≡ (big_bytes 2 24 ++ big_bytes 2 (length (row_spelled family addresses))) ++ row_spelled family addresses
list_there family [] e = absurd (omega arith)
list_there family (address ∷ others) e = refl

pub list_size : (family : AddressFamily) (addresses : List (List ℕ)) → 0 < length (row_spelled family addresses)
    → length (if_there 24 (row_there family addresses)) ≡ 4 + length (row_spelled family addresses)
list_size family [] e = absurd (omega arith)
list_size family (address ∷ others) e = omega arith

pub ruleset nothing_written = (list_absent, list_there, list_size)
