-- What is written is read.
use Rattle.std.proofs.Common.{◌≡◌, ℕ, ◌+◌, ◌<◌, ◌^◌, ◌%◌, Bool, true, false, cond, eqb, leb, not, List, [], ◌∷◌, ◌++◌, length, drop, Option, Some, None, refl, sym, ap, ◌∙◌, arith, length-append}
use Rattle.std.specs.Option.{option_map, option_or, unwrap_or, IfSome}
use Rattle.pim_hello.proofs.Words.{list_all, flat_map, le-ltb, le-leb, lt-leb, and_from, cond-true, take_at, drop_at, append-nil}
use Rattle.pim_hello.proofs.Words.{big_number, big_bytes, AddressFamily, Ipv4, Ipv6, address_length, unicast_length}
use Rattle.pim_hello.proofs.Words.{unicast_address, Address, Delays, is_whole, option_type, value_length, option_value}
use Rattle.pim_hello.proofs.Words.{behind_option, Content, whole, content_at, Part, part_then, parts_within, parts, last_of}
use Rattle.pim_hello.proofs.Words.{begins_with, Listed, native, row, is_native, is_row, if_of, addresses_of, kinds_at, faults_of}
use Rattle.pim_hello.proofs.Words.{delays_of, hello_of, option_spelled, if_there, delays_spelled, address_spelled, row_spelled}
use Rattle.pim_hello.proofs.Words.{row_there, spelling_of, AreAddresses, ReadsBack}
use Rattle.std.proofs.lemmas.List.Concat.{flat_map-append}
use Rattle.byteorder.specs.Numbers.{big_number-reads_back}
use Rattle.pim_hello.proofs.Rows.{one_family, row_at, row_empty}
use Rattle.pim_hello.proofs.Parts.{parts_first, parts_empty, same_hello, or_none}

-- ---- a row of addresses

natives : AddressFamily → List (List ℕ) → List Listed
natives family [] = []
natives family (a ∷ others) = native family a ∷ natives family others

begins_spelled : (family : AddressFamily) (a rest : List ℕ) → length a ≡ address_length family → begins_with family (address_spelled family a ++ rest) ≡ true
begins_spelled Ipv4 a rest e = rw (le-ltb (length (address_spelled Ipv4 a ++ rest)) 6 (omega (arith, length-append (address_spelled Ipv4 a) rest))) refl
begins_spelled Ipv6 a rest e = rw (le-ltb (length (address_spelled Ipv6 a ++ rest)) 18 (omega (arith, length-append (address_spelled Ipv6 a) rest))) refl

first_again : (family : AddressFamily) (a rest : List ℕ) → length a ≡ address_length family → unicast_address family (address_spelled family a ++ rest) ≡ a
first_again Ipv4 a rest e = take_at a rest 4 e
first_again Ipv6 a rest e = take_at a rest 16 e

rest_again : (family : AddressFamily) (a rest : List ℕ) → length a ≡ address_length family → drop (unicast_length family) (address_spelled family a ++ rest) ≡ rest
rest_again Ipv4 a rest e = drop_at a rest 4 e
rest_again Ipv6 a rest e = drop_at a rest 16 e

row_again : (family : AddressFamily) (addresses : List (List ℕ)) → AreAddresses family addresses → row (row_spelled family addresses) ≡ natives family addresses
unfolding AreAddresses natives
row_again family [] all = row_empty [] refl
row_again family (a ∷ others) all =
    let rest = row_spelled family others in
    row_at (address_spelled family a ++ rest) family (one_family (address_spelled family a ++ rest) family (begins_spelled family a rest all.0)) (omega arith)
    ∙ ap (λ (x : List ℕ). native family x ∷ row (drop (unicast_length family) (address_spelled family a ++ rest))) (first_again family a rest all.0)
    ∙ ap (λ (bytes : List ℕ). native family a ∷ row bytes) (rest_again family a rest all.0)
    ∙ ap (λ (listed : List Listed). native family a ∷ listed) (row_again family others all.1)

natives_are_row : (family : AddressFamily) (addresses : List (List ℕ)) → list_all is_native (natives family addresses) ≡ true
unfolding natives
natives_are_row family [] = refl
natives_are_row family (a ∷ others) = natives_are_row family others

natives_of : (family : AddressFamily) (addresses : List (List ℕ)) → flat_map (if_of family) (natives family addresses) ≡ addresses
unfolding natives
natives_of family [] = refl
natives_of Ipv4 (a ∷ others) = ap (λ (listed : List (List ℕ)). a ∷ listed) (natives_of Ipv4 others)
natives_of Ipv6 (a ∷ others) = ap (λ (listed : List (List ℕ)). a ∷ listed) (natives_of Ipv6 others)

is_row_again : (family : AddressFamily) (addresses : List (List ℕ)) → AreAddresses family addresses → is_row (row_spelled family addresses) ≡ true
is_row_again family addresses all = ap (list_all is_native) (row_again family addresses all) ∙ natives_are_row family addresses

addresses_again : (family : AddressFamily) (addresses : List (List ℕ)) → AreAddresses family addresses → addresses_of family (unwrap_or (row_there family addresses) []) ≡ addresses
addresses_again family [] all = ap (flat_map (if_of family)) (row_empty [] refl)
addresses_again family (a ∷ others) all = ap (flat_map (if_of family)) (row_again family (a ∷ others) all) ∙ natives_of family (a ∷ others)

-- the addresses in a row that was written
pub addresses_in_row : (family : AddressFamily) (addresses : List (List ℕ)) → AreAddresses family addresses → addresses_of family (row_spelled family addresses) ≡ addresses
addresses_in_row family addresses all = ap (flat_map (if_of family)) (row_again family addresses all) ∙ natives_of family addresses

-- ---- a row of options

-- an option that is spelled, and has no fault
record Legal (type_code : ℕ) (value : List ℕ) : Type 0 where
  type_fits : type_code < 2 ^ 16
  value_fits : length value < 2 ^ 16
  no_fault : kinds_at (whole type_code value) ≡ []

AreLegal : List (ℕ × List ℕ) → Type 0
AreLegal [] = Unit {0}
AreLegal (o ∷ others) = Legal o.0 o.1 × AreLegal others

abbrev spelled : ℕ × List ℕ → List ℕ
spelled o = option_spelled o.0 o.1

parts_of : ℕ → List (ℕ × List ℕ) → List Part
parts_of at [] = []
parts_of at (o ∷ others) = record { at = at; content = whole o.0 o.1 } ∷ parts_of (at + (4 + length o.1)) others

type_again : (type_code : ℕ) (value rest : List ℕ) → type_code < 2 ^ 16 → option_type (option_spelled type_code value ++ rest) ≡ type_code
type_again type_code value rest fits = big_number-reads_back 2 type_code (big_bytes 2 (length value) ++ (value ++ rest)) fits

length_again : (type_code : ℕ) (value rest : List ℕ) → length value < 2 ^ 16 → value_length (option_spelled type_code value ++ rest) ≡ length value
length_again type_code value rest fits = big_number-reads_back 2 (length value) (value ++ rest) fits

whole_again : (type_code : ℕ) (value rest : List ℕ) → length value < 2 ^ 16 → is_whole (option_spelled type_code value ++ rest) ≡ true
whole_again type_code value rest fits =
    let n = length_again type_code value rest fits in
    let bytes = option_spelled type_code value ++ rest in
    and_from _ _ (le-leb 4 (length bytes) (omega arith)) (le-leb (value_length bytes) (length (drop 4 bytes)) (omega (arith, n, length-append value rest)))

value_again : (type_code : ℕ) (value rest : List ℕ) → length value < 2 ^ 16 → option_value (option_spelled type_code value ++ rest) ≡ value
value_again type_code value rest fits = take_at value rest _ (sym (length_again type_code value rest fits))

behind_again : (type_code : ℕ) (value rest : List ℕ) → length value < 2 ^ 16 → behind_option (option_spelled type_code value ++ rest) ≡ rest
behind_again type_code value rest fits = drop_at value rest _ (sym (length_again type_code value rest fits))

content_again : (type_code : ℕ) (value rest : List ℕ) → Legal type_code value → content_at (option_spelled type_code value ++ rest) ≡ whole type_code value
content_again type_code value rest legal =
    cond-true _ _ _ (whole_again type_code value rest legal.value_fits)
    ∙ ap (λ (k : ℕ). whole k (option_value (option_spelled type_code value ++ rest))) (type_again type_code value rest legal.type_fits)
    ∙ ap (λ (v : List ℕ). whole type_code v) (value_again type_code value rest legal.value_fits)

parts_again : (at : ℕ) (os : List (ℕ × List ℕ)) → AreLegal os → parts_within (length (flat_map spelled os)) at (flat_map spelled os) ≡ parts_of at os
unfolding AreLegal parts_of
parts_again at [] legal = parts_empty at [] refl
parts_again at (o ∷ others) legal =
    let rest = flat_map spelled others in
    let bytes = spelled o ++ rest in
    parts_first at bytes (omega arith)
    ∙ ap (λ (c : Content). part_then at c (parts_within (length (behind_option bytes)) (at + (4 + value_length bytes)) (behind_option bytes))) (content_again o.0 o.1 rest legal.0)
    ∙ ap (λ (n : ℕ). part_then at (whole o.0 o.1) (parts_within (length (behind_option bytes)) (at + (4 + n)) (behind_option bytes))) (length_again o.0 o.1 rest legal.0.value_fits)
    ∙ ap (λ (b : List ℕ). part_then at (whole o.0 o.1) (parts_within (length b) (at + (4 + length o.1)) b)) (behind_again o.0 o.1 rest legal.0.value_fits)
    ∙ ap (part_then at (whole o.0 o.1)) (parts_again (at + (4 + length o.1)) others legal.1)

no_faults : (at : ℕ) (os : List (ℕ × List ℕ)) → AreLegal os → faults_of (parts_of at os) ≡ []
unfolding AreLegal parts_of
no_faults at [] legal = refl
no_faults at (o ∷ others) legal = rw (legal.0.no_fault) (no_faults (at + (4 + length o.1)) others legal.1)

-- ---- the last option of a type

pick : ℕ → List (ℕ × List ℕ) → Option (List ℕ)
pick type_code [] = None
pick type_code (o ∷ others) = option_or (pick type_code others) (cond (eqb o.0 type_code) (Some o.1) None)

last_again : (type_code at : ℕ) (os : List (ℕ × List ℕ)) → last_of type_code (parts_of at os) ≡ pick type_code os
unfolding last_of parts_of pick
last_again type_code at [] = refl
last_again type_code at (o ∷ others) = ap (λ (found : Option (List ℕ)). option_or found (cond (eqb o.0 type_code) (Some o.1) None)) (last_again type_code (at + (4 + length o.1)) others)

or_assoc : {A : Type 0} (a b c : Option A) → option_or (option_or a b) c ≡ option_or a (option_or b c)
or_assoc None b c = refl
or_assoc (Some x) b c = refl

pick-append : (type_code : ℕ) (xs ys : List (ℕ × List ℕ)) → pick type_code (xs ++ ys) ≡ option_or (pick type_code ys) (pick type_code xs)
unfolding pick
pick-append type_code [] ys = sym (or_none (pick type_code ys))
pick-append type_code (o ∷ others) ys =
    ap (λ (found : Option (List ℕ)). option_or found (cond (eqb o.0 type_code) (Some o.1) None)) (pick-append type_code others ys)
    ∙ or_assoc (pick type_code ys) (pick type_code others) (cond (eqb o.0 type_code) (Some o.1) None)

-- an option that may be absent
entry : ℕ → Option (List ℕ) → List (ℕ × List ℕ)
entry type_code None = []
entry type_code (Some value) = (type_code, value) ∷ []

none_either : (b : Bool) → None ≡ cond b (let n : Option (List ℕ) = None in n) None
none_either true = refl
none_either false = refl

pick-entry : (type_code this : ℕ) (o : Option (List ℕ)) → pick type_code (entry this o) ≡ cond (eqb this type_code) o None
unfolding pick entry
pick-entry type_code this None = none_either (eqb this type_code)
pick-entry type_code this (Some value) = refl

entry_spelled : (type_code : ℕ) (o : Option (List ℕ)) → flat_map spelled (entry type_code o) ≡ if_there type_code o
unfolding entry
entry_spelled type_code None = refl
entry_spelled type_code (Some value) = append-nil (option_spelled type_code value)

entry_legal : (type_code : ℕ) (o : Option (List ℕ)) → IfSome o (Legal type_code) → AreLegal (entry type_code o)
unfolding entry AreLegal
entry_legal type_code None legal = tt
entry_legal type_code (Some value) legal = (legal, tt)

both_legal : (xs ys : List (ℕ × List ℕ)) → AreLegal xs → AreLegal ys → AreLegal (xs ++ ys)
unfolding AreLegal
both_legal [] ys p q = q
both_legal (o ∷ others) ys p q = (p.0, both_legal others ys p.1 q)

-- ---- the five options

module _ (a b c d e : Option (List ℕ)) where
  all : List (ℕ × List ℕ)
  all = (entry 1 a ++ (entry 2 b ++ (entry 19 c ++ entry 20 d))) ++ entry 24 e

  all_spelled : flat_map spelled all ≡ (if_there 1 a ++ (if_there 2 b ++ (if_there 19 c ++ if_there 20 d))) ++ if_there 24 e
  unfolding all
  all_spelled = simp (flat_map-append, entry_spelled)

  all_legal : IfSome a (Legal 1) → IfSome b (Legal 2) → IfSome c (Legal 19) → IfSome d (Legal 20) → IfSome e (Legal 24) → AreLegal all
  unfolding all
  all_legal p q r s t = both_legal _ _ (both_legal _ _ (entry_legal 1 a p) (both_legal _ _ (entry_legal 2 b q) (both_legal _ _ (entry_legal 19 c r) (entry_legal 20 d s)))) (entry_legal 24 e t)

  pick_1 : pick 1 all ≡ a
  unfolding all
  pick_1 = simp (pick-append, pick-entry)

  pick_2 : pick 2 all ≡ b
  unfolding all
  pick_2 = simp (pick-append, pick-entry, or_none)

  pick_19 : pick 19 all ≡ c
  unfolding all
  pick_19 = simp (pick-append, pick-entry, or_none)

  pick_20 : pick 20 all ≡ d
  unfolding all
  pick_20 = simp (pick-append, pick-entry, or_none)

  pick_24 : pick 24 all ≡ e
  unfolding all
  pick_24 = simp (pick-append, pick-entry, or_none)

-- ---- the values

number16_again : (n : Option ℕ) → IfSome n (λ x. x < 2 ^ 16) → option_map (big_number 2) (option_map (big_bytes 2) n) ≡ n
number16_again None fits = refl
number16_again (Some x) fits = ap {B = Option ℕ} Some (big_number-reads_back 2 x [] fits)

number32_again : (n : Option ℕ) → IfSome n (λ x. x < 2 ^ 32) → option_map (big_number 4) (option_map (big_bytes 4) n) ≡ n
number32_again None fits = refl
number32_again (Some x) fits = ap {B = Option ℕ} Some (big_number-reads_back 4 x [] fits)

abbrev delays : Bool → ℕ → ℕ → Delays
delays t propagation interval = record { t = t; propagation = propagation; override_ms = interval }

delays_is : (t : Bool) (x propagation interval y : ℕ) → leb 32768 x ≡ t → x % 32768 ≡ propagation → y ≡ interval → delays (leb 32768 x) (x % 32768) y ≡ delays t propagation interval
delays_is t x propagation interval y p q r = cc

high_bit : (t : Bool) (p : ℕ) → p < 2 ^ 15 → leb 32768 (cond t 32768 0 + p) ≡ t
high_bit true p h = le-leb 32768 (32768 + p) (omega arith)
high_bit false p h = lt-leb 32768 (0 + p) (omega arith)

low_bits : (t : Bool) (p : ℕ) → p < 2 ^ 15 → (cond t 32768 0 + p) % 32768 ≡ p
low_bits true p h = omega arith
low_bits false p h = omega arith

word_small : (t : Bool) (p : ℕ) → p < 2 ^ 15 → cond t 32768 0 + p < 2 ^ 16
word_small true p h = omega arith
word_small false p h = omega arith

one_delays_again : (d : Delays) → d.propagation < 2 ^ 15 → d.override_ms < 2 ^ 16 → delays_of (delays_spelled d) ≡ d
one_delays_again d low interval =
    let x = cond d.t 32768 0 + d.propagation in
    let word : big_number 2 (delays_spelled d) ≡ x = big_number-reads_back 2 x (big_bytes 2 d.override_ms) (word_small d.t d.propagation low) in
    ap (λ (n : ℕ). delays (leb 32768 n) (n % 32768) (big_number 2 (drop 2 (delays_spelled d)))) word
    ∙ delays_is d.t x d.propagation d.override_ms _ (high_bit d.t d.propagation low) (low_bits d.t d.propagation low) (big_number-reads_back 2 d.override_ms [] interval)

delays_again : (d : Option Delays) → IfSome d (λ x. (x.propagation < 2 ^ 15) × (x.override_ms < 2 ^ 16)) → option_map delays_of (option_map delays_spelled d) ≡ d
delays_again None fits = refl
delays_again (Some d) fits = ap {B = Option Delays} Some (one_delays_again d fits.0 fits.1)

-- ---- each option is legal

number_legal_1 : (n : Option ℕ) → IfSome (option_map (big_bytes 2) n) (Legal 1)
number_legal_1 None = tt
number_legal_1 (Some x) = record { type_fits = omega arith; value_fits = omega arith; no_fault = refl }

delays_legal : (d : Option Delays) → IfSome (option_map delays_spelled d) (Legal 2)
delays_legal None = tt
delays_legal (Some x) = record { type_fits = omega arith; value_fits = omega arith; no_fault = refl }

number_legal_19 : (n : Option ℕ) → IfSome (option_map (big_bytes 4) n) (Legal 19)
number_legal_19 None = tt
number_legal_19 (Some x) = record { type_fits = omega arith; value_fits = omega arith; no_fault = refl }

number_legal_20 : (n : Option ℕ) → IfSome (option_map (big_bytes 4) n) (Legal 20)
number_legal_20 None = tt
number_legal_20 (Some x) = record { type_fits = omega arith; value_fits = omega arith; no_fault = refl }

list_legal : (family : AddressFamily) (addresses : List (List ℕ)) → AreAddresses family addresses → length (row_spelled family addresses) < 2 ^ 16 → IfSome (row_there family addresses) (Legal 24)
list_legal family [] long small = tt
list_legal family (a ∷ others) long small = record {
  type_fits = omega arith;
  value_fits = small;
  no_fault = ap (λ (b : Bool). cond (not b) (Address ∷ []) []) (is_row_again family (a ∷ others) long);
}

-- ---- the law

pub reads_back : (family : AddressFamily) → ReadsBack family
reads_back family hello fits =
    let p = hello.parameters in
    let a = option_map (big_bytes 2) p.holdtime in
    let b = option_map delays_spelled p.lan in
    let c = option_map (big_bytes 4) p.priority in
    let d = option_map (big_bytes 4) p.generation in
    let e = row_there family hello.addresses in
    let os = all a b c d e in
    let legal = all_legal a b c d e (number_legal_1 p.holdtime) (delays_legal p.lan) (number_legal_19 p.priority) (number_legal_20 p.generation) (list_legal family hello.addresses fits.addresses fits.row) in
    let bytes : flat_map spelled os ≡ spelling_of family hello = all_spelled a b c d e in
    let cut : parts (spelling_of family hello) ≡ parts_of 0 os = sym (ap parts bytes) ∙ parts_again 0 os legal in
    let last = λ (type_code : ℕ). ap (last_of type_code) cut ∙ last_again type_code 0 os in (
      ap faults_of cut ∙ no_faults 0 os legal,
      same_hello (hello_of family (spelling_of family hello)) hello
          (ap (option_map (big_number 2)) (last 1 ∙ pick_1 a b c d e) ∙ number16_again p.holdtime fits.parameters.holdtime)
          (ap (option_map delays_of) (last 2 ∙ pick_2 a b c d e) ∙ delays_again p.lan fits.parameters.lan)
          (ap (option_map (big_number 4)) (last 19 ∙ pick_19 a b c d e) ∙ number32_again p.priority fits.parameters.priority)
          (ap (option_map (big_number 4)) (last 20 ∙ pick_20 a b c d e) ∙ number32_again p.generation fits.parameters.generation)
          (ap (λ (o : Option (List ℕ)). addresses_of family (unwrap_or o [])) (last 24 ∙ pick_24 a b c d e) ∙ addresses_again family hello.addresses fits.addresses),
    )
