-- The messages of the parts of a normal form tell its units, each once.
use Rattle.pim_mirror.proofs.Words.{◌≡◌, ◌∙◌, ℕ, zero, suc, ◌<◌, Bool, true, false, ◌&&◌, ◌||◌, ◌==◌, List, [], ◌∷◌, Option, None}
use Rattle.pim_mirror.proofs.Words.{Some, map, get_or, length, refl, sym, ap, subst, arith, AllByRecursion, list_any, flat_map}
use Rattle.pim_mirror.proofs.Words.{IsStrictlySortedBy, false≢true, eqb-true, eq-eqb, AddressFamily, What, Key, Timing, GroupForm}
use Rattle.pim_mirror.proofs.Words.{AreAscending, AreExceptions, IsNormalGroup, IsNormal, exceptions_of, units_of, Writing}
use Rattle.pim_mirror.proofs.Words.{HaveRps, written_message, Exchange, has_unit_of, AreUnits, DemandingHasUnits, HasListsInOrder}
use Rattle.pim_mirror.proofs.Words.{IsInOrder, AreParts, form_names, events_at, exchange_of, IsCarried, CarriesForm}
use Rattle.pim_mirror.proofs.Words.{PartsHaveUnitsOnce}
use Rattle.pim_mirror.proofs.SameAddresses.{first_true, second_true, both, and_false}
use Rattle.pim_mirror.proofs.Asks.{part_demands}
use Rattle.pim_mirror.proofs.UnitOrder.{AreOrdered, ordered_behind}
use Rattle.pim_mirror.proofs.Parts.{in_order}
use Rattle.pim_mirror.proofs.Named.{names_part}
use Rattle.pim_mirror.proofs.UnitNames.{some_names, units_name, clash_lists, parts_name}

-- ---- a normal form is in order

exceptions_in_order : (family : AddressFamily) (star : Option (List (List ℕ))) → AreExceptions family star → AreAscending (exceptions_of star)
unfolding IsStrictlySortedBy
exceptions_in_order family None are = tt
exceptions_in_order family (Some exceptions) are = are.0

lists_in_order : (family : AddressFamily) (form : List GroupForm) → AllByRecursion (IsNormalGroup family) form → AllByRecursion HasListsInOrder form
lists_in_order family [] are = tt
lists_in_order family (this ∷ form) are = (record { exceptions = exceptions_in_order family this.star are.0.exceptions; sources = are.0.ascending }, lists_in_order family form are.1)

pub normal_in_order : (family : AddressFamily) (form : List GroupForm) → IsNormal family form → IsInOrder form
normal_in_order family form is = record { groups = is.ascending; lists = lists_in_order family form is.groups }

-- ---- parts by their numbers

module _ (h : List ℕ) (w : What (List ℕ)) where
  some_part : (parts : List (List GroupForm)) (i : ℕ) → form_names (get_or parts i []) h w ≡ true → list_any (λ part. form_names part h w) parts ≡ true
  some_part [] i listed = absurd (false≢true listed)
  some_part (part ∷ parts) zero listed = ap (λ b. b || list_any (λ part. form_names part h w) parts) listed
  some_part (part ∷ parts) (suc i) listed = by (form_names part h w) (some_part parts i listed)
    where
      by : (a : Bool) → list_any (λ part. form_names part h w) parts ≡ true → (a || list_any (λ part. form_names part h w) parts) ≡ true
      by true e = refl
      by false e = e

  part_within : (parts : List (List GroupForm)) (i : ℕ) → form_names (get_or parts i []) h w ≡ true → i < length parts
  part_within [] i listed = absurd (false≢true listed)
  part_within (part ∷ parts) zero listed = omega arith
  part_within (part ∷ parts) (suc i) listed = omega (arith, part_within parts i listed)

  record NamingPart (parts : List (List GroupForm)) : Type 0 where
    number : ℕ
    within : number < length parts
    listed : form_names (get_or parts number []) h w ≡ true

  part_of : (parts : List (List GroupForm)) → list_any (λ part. form_names part h w) parts ≡ true → NamingPart parts
  part_of [] some = absurd (false≢true some)
  part_of (part ∷ parts) some =
      elim (form_names part h w) as (λ b. form_names part h w ≡ b → (b || list_any (λ part. form_names part h w) parts) ≡ true → NamingPart (part ∷ parts)) [
        | true ↦ λ e f. record { number = zero; within = omega arith; listed = e }
        | false ↦ λ e f. let found = part_of parts f in record { number = suc found.number; within = omega (arith, found.within); listed = found.listed }
      ] refl some

  one_part : (parts : List (List GroupForm)) → AreOrdered (flat_map units_of parts) → (i j : ℕ) → form_names (get_or parts i []) h w ≡ true → form_names (get_or parts j []) h w ≡ true → i ≡ j
  one_part [] ordered i j listed again = absurd (false≢true listed)
  one_part (part ∷ parts) ordered zero zero listed again = refl
  one_part (part ∷ parts) ordered zero (suc j) listed again =
      absurd (clash_lists h w (units_of part) (flat_map units_of parts) ordered (units_name h w part ∙ listed) (parts_name h w parts ∙ some_part parts j again))
  one_part (part ∷ parts) ordered (suc i) zero listed again =
      absurd (clash_lists h w (units_of part) (flat_map units_of parts) ordered (units_name h w part ∙ again) (parts_name h w parts ∙ some_part parts i listed))
  one_part (part ∷ parts) ordered (suc i) (suc j) listed again = ap suc (one_part parts (ordered_behind (units_of part) (flat_map units_of parts) ordered) i j listed again)

-- ---- the messages of parts

module _ (family : AddressFamily) (writing : Writing) (rps : List ℕ → Option (List ℕ)) (port : ℕ) where
  named_at : (key : Key (List ℕ)) (parts : List (List GroupForm)) (i : ℕ) → AllByRecursion (HaveRps family rps) parts
      → has_unit_of port key (events_at rps (map (written_message writing rps) parts) i) ≡ ((port == key.port) && form_names (get_or parts i []) key.group key.what)
  named_at key [] i have = sym (and_false (port == key.port))
  named_at key (part ∷ parts) zero have = names_part rps port key.port key.group key.what family part have.0
  named_at key (part ∷ parts) (suc i) have = named_at key parts i have.1

  units_at : DemandingHasUnits → (parts : List (List GroupForm)) (i : ℕ) → AllByRecursion (IsNormal family) parts → AllByRecursion (HaveRps family rps) parts
      → AreUnits port [] (events_at rps (map (written_message writing rps) parts) i)
  unfolding AreUnits
  units_at asking [] i normal have = tt
  units_at asking (part ∷ parts) zero normal have = asking rps port (written_message writing rps part) (part_demands family writing rps part (normal_in_order family part normal.0) have.0)
  units_at asking (part ∷ parts) (suc i) normal have = units_at asking parts i normal.1 have.1

module _ (family : AddressFamily) (writing : Writing) (rps : List ℕ → Option (List ℕ)) (form : List GroupForm) (messages : List (List ℕ)) (parts : List (List GroupForm)) (port : ℕ) (timing : Timing)
    (is : IsNormal family form) (are : AreParts family writing rps form messages parts) where
  exchange : Exchange
  exchange = exchange_of rps writing.holdtime port timing (map (written_message writing rps) parts)

  at : (key : Key (List ℕ)) (i : ℕ) → has_unit_of port key (events_at rps (map (written_message writing rps) parts) i) ≡ ((port == key.port) && form_names (get_or parts i []) key.group key.what)
  at key i = named_at family writing rps port key parts i are.have

  here : (key : Key (List ℕ)) (i : ℕ) → has_unit_of port key (events_at rps (map (written_message writing rps) parts) i) ≡ true → form_names (get_or parts i []) key.group key.what ≡ true
  here key i listed = second_true (port == key.port) (form_names (get_or parts i []) key.group key.what) (sym (at key i) ∙ listed)

  on_port : (key : Key (List ℕ)) (i : ℕ) → has_unit_of port key (events_at rps (map (written_message writing rps) parts) i) ≡ true → key.port ≡ port
  on_port key i listed = sym (eqb-true port key.port (first_true (port == key.port) (form_names (get_or parts i []) key.group key.what) (sym (at key i) ∙ listed)))

  -- what the parts name is what the form names
  whole : (h : List ℕ) (w : What (List ℕ)) → list_any (λ part. form_names part h w) parts ≡ form_names form h w
  whole h w = sym (parts_name h w parts) ∙ ap (some_names h w) are.whole ∙ units_name h w form

  reported : (key : Key (List ℕ)) → key.port ≡ port → NamingPart key.group key.what parts → IsCarried exchange (length parts) key
  unfolding exchange
  reported key on found = record {
    message = found.number;
    within = found.within;
    listed = at key found.number ∙ both (port == key.port) (form_names (get_or parts found.number []) key.group key.what) (eq-eqb port key.port (sym on)) found.listed;
  }

  carries : DemandingHasUnits → CarriesForm exchange (length parts) form
  unfolding exchange
  carries asking = record {
    once = record {
      units = λ i. units_at family writing rps port asking parts i are.normal are.have;
      once = λ i j key listed again. one_part key.group key.what parts (subst AreOrdered (sym are.whole) (in_order family form is)) i j (here key i listed) (here key j again);
    };
    no_others = λ i key listed. record {
      within = part_within key.group key.what parts i (here key i listed);
      port = on_port key i listed;
      listed = sym (whole key.group key.what) ∙ some_part key.group key.what parts i (here key i listed);
    };
    all = λ key on listed. reported key on (part_of key.group key.what parts (whole key.group key.what ∙ listed));
  }

pub parts_tell : DemandingHasUnits → PartsHaveUnitsOnce
unfolding exchange
parts_tell asking family writing rps form messages parts port timing is are = carries family writing rps form messages parts port timing is are asking
