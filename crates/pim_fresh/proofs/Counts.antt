-- How many machines are held, and how many a delivery needs.
use Rattle.pim_fresh.proofs.Words.{◌≡◌, ℕ, ◌+◌, ◌-◌, Bool, true, false, cond, ◌&&◌, ◌||◌, not, List, [], ◌∷◌, ◌++◌, Option, Some}
use Rattle.pim_fresh.proofs.Words.{None, map, length, eqb, refl, sym, ap, subst, ◌∙◌, arith, is_some, AllByRecursion, IsDistinct}
use Rattle.pim_fresh.proofs.Words.{IsEquivalence, false≢true, eq-eqb, list_any-append, What, Star, Source, Rpt, Key, PrunePending}
use Rattle.pim_fresh.proofs.Words.{Prune, same_key, IsBelow, IsAscending, machine_at, count_on, machine_in, Event, key_of}
use Rattle.pim_fresh.proofs.Words.{creates, is_new, count_new, needed, Downstream, KeysAreDistinct, Exchange, HasUnitsOnce}
use Rattle.pim_fresh.proofs.Words.{has_unit_of, AreUnits, Delivery, last_of, is_delivered, Span, span_of, time_left, is_waiting}
use Rattle.pim_fresh.proofs.Words.{unit_of, units_of, HoldsTheUnits, NeedsTheUnits}
use Rattle.std.specs.Ordering.{is_eq}
use Rattle.std.specs.Set.{is_member}
use Rattle.std.proofs.lemmas.List.{length-map, length-append}
use Rattle.std.proofs.lemmas.Map.Made.{length-from_same_keys}
use Rattle.pim_down.specs.declared.machines.machine.Record.{Record}
use Rattle.pim_fresh.proofs.Named.{or_true, or_false, same_itself, named_port, apart}
use Rattle.pim_fresh.proofs.Spans.{names, comes, span_named, span_other}
use Rattle.pim_fresh.proofs.Staying.{was_named}
use Rattle.pim_fresh.proofs.Hearings.{Machines, IsExpected, is_expected}

-- ---- keys that are held

key_held : Record (List ℕ) → Key (List ℕ)
key_held held = held.key

member_held : (key : Key (List ℕ)) (records : List (Record (List ℕ))) → is_member same_key (map key_held records) key ≡ is_some (machine_at key records)
unfolding machine_at key_held
member_held key [] = refl
member_held key (held ∷ records) =
    elim (same_key key held.key) as (λ b. (b || is_member same_key (map key_held records) key) ≡ is_some (cond b (Some held.machine) (machine_at key records))) [
      | true ↦ refl
      | false ↦ member_held key records
    ]

below_apart : (key : Key (List ℕ)) (records : List (Record (List ℕ))) → IsBelow key records → AllByRecursion (λ other. same_key key other ≡ false) (map key_held records)
unfolding IsBelow key_held
below_apart key [] below = tt
below_apart key (held ∷ records) below = (ap is_eq below.0, below_apart key records below.1)

distinct_held : (records : List (Record (List ℕ))) → IsAscending records → IsDistinct same_key (map key_held records)
unfolding IsAscending IsDistinct key_held
distinct_held [] ascending = tt
distinct_held (held ∷ records) ascending = (below_apart held.key records ascending.0, distinct_held records ascending.1)

-- ---- keys that are named

last_delivered : (message last : ℕ) (deliveries : List Delivery) → last_of message deliveries ≡ Some last → is_delivered message deliveries ≡ true
unfolding last_of
last_delivered message last [] e = absurd (false≢true (ap is_some e))
last_delivered message last (delivery ∷ earlier) e =
    elim (eqb delivery.message message) as (λ b. cond b (Some delivery.moment) (last_of message earlier) ≡ Some last → (b || is_delivered message earlier) ≡ true) [
      | true ↦ λ f. refl
      | false ↦ λ f. last_delivered message last earlier f
    ] e

module _ (keys : KeysAreDistinct) where
  symmetric : (a b : Key (List ℕ)) → same_key a b ≡ same_key b a
  symmetric a b = by (same_key a b) (same_key b a) refl refl
    where
      by : (x y : Bool) → same_key a b ≡ x → same_key b a ≡ y → x ≡ y
      by true true p q = refl
      by true false p q = absurd (false≢true (sym q ∙ (keys b a).1.1 (sym ((keys a b).1.0 p))))
      by false true p q = absurd (false≢true (sym p ∙ (keys a b).1.1 (sym ((keys b a).1.0 q))))
      by false false p q = refl

  equivalence : IsEquivalence same_key
  equivalence = record {
    refl = λ a. (keys a a).1.1 refl;
    symm = λ a b. symmetric a b;
    congr = λ a b c e. ap (λ (k : Key (List ℕ)). same_key k c) ((keys a b).1.0 e);
  }

  member_named : (port : ℕ) (key : Key (List ℕ)) (events : List Event) → is_member same_key (map (key_of port) events) key ≡ has_unit_of port key events
  member_named port key [] = refl
  member_named port key (event ∷ events) =
      ap (λ b. b || is_member same_key (map (key_of port) events) key) (symmetric key (key_of port event))
      ∙ ap (λ b. same_key (key_of port event) key || b) (member_named port key events)

  absent_apart : (port : ℕ) (key : Key (List ℕ)) (events : List Event) → has_unit_of port key events ≡ false → AllByRecursion (λ other. same_key key other ≡ false) (map (key_of port) events)
  absent_apart port key [] e = tt
  absent_apart port key (event ∷ events) e =
      let parts = or_false (same_key (key_of port event) key) (has_unit_of port key events) e in
      (symmetric key (key_of port event) ∙ parts.0, absent_apart port key events parts.1)

  named_append : (port : ℕ) (key : Key (List ℕ)) (front back : List Event) → has_unit_of port key (front ++ back) ≡ (has_unit_of port key front || has_unit_of port key back)
  named_append port key front back = list_any-append (λ (event : Event). same_key (key_of port event) key) front back

  none_of : (a b : Bool) → a ≡ false → b ≡ false → (a || b) ≡ false
  none_of true b p q = p
  none_of false b p q = q

  distinct_append : (port : ℕ) (before events more : List Event) → AreUnits port before events → IsDistinct same_key (map (key_of port) more) → ((key : Key (List ℕ)) → has_unit_of port key events ≡ true → has_unit_of port key more ≡ false) → IsDistinct same_key (map (key_of port) (events ++ more))
  unfolding AreUnits IsDistinct
  distinct_append port before [] more units distinct others = distinct
  distinct_append port before (event ∷ events) more units distinct others =
      let own : has_unit_of port (key_of port event) (event ∷ before) ≡ true = ap (λ b. b || has_unit_of port (key_of port event) before) (same_itself keys port (key_of port event)) in
      let here : has_unit_of port (key_of port event) events ≡ false = apart keys port (key_of port event) (event ∷ before) events units.3 own in
      let there : has_unit_of port (key_of port event) more ≡ false = others (key_of port event) (ap (λ b. b || has_unit_of port (key_of port event) events) (same_itself keys port (key_of port event))) in (
        absent_apart port (key_of port event) (events ++ more) (named_append port (key_of port event) events more ∙ none_of (has_unit_of port (key_of port event) events) (has_unit_of port (key_of port event) more) here there),
        distinct_append port (event ∷ before) events more units.3 distinct (λ key has_unit. others key (ap (λ b. same_key (key_of port event) key || b) has_unit ∙ or_true (same_key (key_of port event) key))),
      )

  module _ (exchange : Exchange) (carries : HasUnitsOnce exchange) where
    -- what is named by a message that didn't come has no span
    no_span_yet : (message : ℕ) (deliveries : List Delivery) (key : Key (List ℕ)) → is_delivered message deliveries ≡ false → has_unit_of exchange.port key (exchange.messages message) ≡ true → is_some (span_of exchange key deliveries) ≡ false
    no_span_yet message deliveries key d has_unit = by (span_of exchange key deliveries) refl
      where
        by : (o : Option Span) → span_of exchange key deliveries ≡ o → is_some o ≡ false
        by None e = refl
        by (Some span) e =
            let that = comes exchange key deliveries span e in
            let same = carries.once that.message message key that.has_unit has_unit in
            absurd (false≢true (sym d ∙ subst (λ (i : ℕ). is_delivered i deliveries ≡ true) same (last_delivered that.message span.last deliveries that.last)))

    named_units : (key : Key (List ℕ)) (deliveries : List Delivery) → has_unit_of exchange.port key (units_of exchange deliveries) ≡ is_some (span_of exchange key deliveries)
    unfolding units_of span_of
    named_units key [] = refl
    named_units key (delivery ∷ earlier) =
        named_append exchange.port key (cond (is_delivered delivery.message earlier) [] (exchange.messages delivery.message)) (units_of exchange earlier)
        ∙ ap (λ b. has_unit_of exchange.port key (cond (is_delivered delivery.message earlier) [] (exchange.messages delivery.message)) || b) (named_units key earlier)
        ∙ by (names exchange key delivery) refl (is_delivered delivery.message earlier) refl
      where
        by : (n : Bool) → names exchange key delivery ≡ n → (d : Bool) → is_delivered delivery.message earlier ≡ d →
            (has_unit_of exchange.port key (cond d [] (exchange.messages delivery.message)) || is_some (span_of exchange key earlier)) ≡ is_some (span_of exchange key (delivery ∷ earlier))
        by true n true d = was_named exchange key delivery.message earlier d n ∙ sym (ap is_some (span_named exchange key delivery earlier n))
        by true n false d = ap (λ b. b || is_some (span_of exchange key earlier)) n ∙ sym (ap is_some (span_named exchange key delivery earlier n))
        by false n true d = sym (ap is_some (span_other exchange key delivery earlier n))
        by false n false d = ap (λ b. b || is_some (span_of exchange key earlier)) n ∙ sym (ap is_some (span_other exchange key delivery earlier n))

    distinct_units : (deliveries : List Delivery) → IsDistinct same_key (map (key_of exchange.port) (units_of exchange deliveries))
    unfolding units_of IsDistinct
    distinct_units [] = tt
    distinct_units (delivery ∷ earlier) =
        elim (is_delivered delivery.message earlier) as (λ d. is_delivered delivery.message earlier ≡ d → IsDistinct same_key (map (key_of exchange.port) (cond d [] (exchange.messages delivery.message) ++ units_of exchange earlier))) [
          | true ↦ λ d. distinct_units earlier
          | false ↦ λ d. distinct_append exchange.port [] (exchange.messages delivery.message) (units_of exchange earlier) (carries.units delivery.message) (distinct_units earlier)
              (λ key has_unit. named_units key earlier ∙ no_span_yet delivery.message earlier key d has_unit)
        ] refl

    some_unit : (moment : ℕ) (what : What (List ℕ)) (o : Option Span) → is_some (unit_of exchange moment what o) ≡ is_some o
    some_unit moment what None = refl
    some_unit moment Star (Some span) = refl
    some_unit moment (Source source) (Some span) = refl
    some_unit moment (Rpt source) (Some span) = by (is_waiting exchange.timing moment span)
      where
        by : (b : Bool) → is_some (cond b (machine_in PrunePending (time_left exchange moment span) (Some (record { ends_in = (span.first + exchange.timing.override_ms) - moment; several = true }))) (machine_in Prune (time_left exchange moment span) None)) ≡ true
        by true = refl
        by false = refl

    module _ (laws : Machines) (ports limit : ℕ) (deliveries : List Delivery) (moment : ℕ) (state : Downstream) (is : IsExpected laws exchange carries ports limit deliveries moment state) where
      held_named : (key : Key (List ℕ)) → is_some (machine_at key state.records) ≡ is_some (span_of exchange key deliveries)
      held_named key = ap is_some (is.machines key) ∙ some_unit moment key.what (span_of exchange key deliveries)

      pub counted : length state.records ≡ length (units_of exchange deliveries)
      counted =
          sym (length-map state.records key_held)
          ∙ length-from_same_keys equivalence (map key_held state.records) (map (key_of exchange.port) (units_of exchange deliveries)) (distinct_held state.records is.ascending) (distinct_units deliveries)
          (λ key. member_held key state.records ∙ held_named key ∙ sym (named_units key deliveries) ∙ sym (member_named exchange.port key (units_of exchange deliveries)))
          ∙ length-map (units_of exchange deliveries) (key_of exchange.port)

-- ---- room

-- all records are on the port
all_on : (port : ℕ) (records : List (Record (List ℕ))) → KeysAreDistinct → ((key : Key (List ℕ)) → is_some (machine_at key records) ≡ true → key.port ≡ port) → count_on port records ≡ length records
unfolding count_on machine_at
all_on port [] keys on = refl
all_on port (held ∷ records) keys on =
    let here : held.key.port ≡ port = on held.key (ap (λ b. is_some (cond b (Some held.machine) (machine_at held.key records))) ((keys held.key held.key).1.1 refl)) in
    let rest = all_on port records keys (λ key e. on key (later key (same_key key held.key) e)) in
    let counted : eqb held.key.port port ≡ true = eq-eqb held.key.port port here in
    let one : count_on port (held ∷ records) ≡ 1 + count_on port records = ap (λ b. cond b 1 0 + count_on port records) counted in
    omega arith
  where
    later : (key : Key (List ℕ)) (b : Bool) → is_some (machine_at key records) ≡ true → is_some (cond b (Some held.machine) (machine_at key records)) ≡ true
    later key true e = refl
    later key false e = e

module _ (keys : KeysAreDistinct) (port : ℕ) (records : List (Record (List ℕ))) where
  -- each of these names its own machine
  names_own : (event : Event) (events : List Event) → has_unit_of port (key_of port event) (event ∷ events) ≡ true
  names_own event events = ap (λ b. b || has_unit_of port (key_of port event) events) (same_itself keys port (key_of port event))

  names_later : (key : Key (List ℕ)) (event : Event) (events : List Event) → has_unit_of port key events ≡ true → has_unit_of port key (event ∷ events) ≡ true
  names_later key event events has_unit = ap (λ b. same_key (key_of port event) key || b) has_unit ∙ or_true (same_key (key_of port event) key)

  all_new : (before events : List Event) → AreUnits port before events → ((key : Key (List ℕ)) → has_unit_of port key events ≡ true → is_some (machine_at key records) ≡ false) → count_new port records events ≡ length events
  unfolding count_new AreUnits
  all_new before [] units absent = refl
  all_new before (event ∷ events) units absent =
      let new : is_new port records event ≡ true = ap (λ b. creates event && not b) (absent (key_of port event) (names_own event events)) ∙ ap (λ b. b && true) units.0 in
      let more = all_new (event ∷ before) events units.3 (λ key has_unit. absent key (names_later key event events has_unit)) in
      let one : count_new port records (event ∷ events) ≡ 1 + count_new port records events = ap (λ b. cond b 1 0 + count_new port records events) new in
      omega arith

  none_new : (events : List Event) → ((key : Key (List ℕ)) → has_unit_of port key events ≡ true → is_some (machine_at key records) ≡ true) → count_new port records events ≡ 0
  unfolding count_new
  none_new [] held = refl
  none_new (event ∷ events) held =
      let old : is_new port records event ≡ false = ap (λ b. creates event && not b) (held (key_of port event) (names_own event events)) ∙ and_false (creates event) in
      let more = none_new events (λ key has_unit. held key (names_later key event events has_unit)) in
      let none : count_new port records (event ∷ events) ≡ 0 + count_new port records events = ap (λ b. cond b 1 0 + count_new port records events) old in
      omega arith
    where
      and_false : (a : Bool) → (a && false) ≡ false
      and_false true = refl
      and_false false = refl

module _ (laws : Machines) (exchange : Exchange) (carries : HasUnitsOnce exchange) (ports limit : ℕ) (delivery : Delivery) (earlier : List Delivery) (before : Downstream) (is : IsExpected laws exchange carries ports limit earlier delivery.moment before) where
  spanned : (key : Key (List ℕ)) → is_some (machine_at key before.records) ≡ is_some (span_of exchange key earlier)
  spanned key = held_named laws.keys exchange carries laws ports limit earlier delivery.moment before is key

  span_on : (key : Key (List ℕ)) (o : Option Span) → span_of exchange key earlier ≡ o → is_some o ≡ true → key.port ≡ exchange.port
  span_on key None e some = absurd (false≢true some)
  span_on key (Some span) e some =
      let that = comes exchange key earlier span e in
      named_port laws.keys exchange.port key (exchange.messages that.message) that.has_unit

  held_count : count_on exchange.port before.records ≡ length (units_of exchange earlier)
  held_count =
      all_on exchange.port before.records laws.keys (λ key e. span_on key (span_of exchange key earlier) refl (sym (spanned key) ∙ e))
      ∙ counted laws.keys exchange carries laws ports limit earlier delivery.moment before is

  pub needs : needed exchange.port before.records (exchange.messages delivery.message) ≡ length (units_of exchange (delivery ∷ earlier))
  unfolding units_of
  needs =
      ap (λ n. n + count_new exchange.port before.records (exchange.messages delivery.message)) held_count
      ∙ by (is_delivered delivery.message earlier) refl
    where
      by : (d : Bool) → is_delivered delivery.message earlier ≡ d →
          length (units_of exchange earlier) + count_new exchange.port before.records (exchange.messages delivery.message)
          ≡ length (cond d [] (exchange.messages delivery.message) ++ units_of exchange earlier)
      by true d =
          let none = none_new laws.keys exchange.port before.records (exchange.messages delivery.message) (λ key has_unit. spanned key ∙ was_named exchange key delivery.message earlier d has_unit) in
          omega arith
      by false d =
          let all = all_new laws.keys exchange.port before.records [] (exchange.messages delivery.message) (carries.units delivery.message) (λ key has_unit. spanned key ∙ no_span_yet laws.keys exchange carries delivery.message earlier key d has_unit) in
          let both = length-append (exchange.messages delivery.message) (units_of exchange earlier) in
          omega arith

pub needs_the_units : Machines → NeedsTheUnits
needs_the_units laws exchange ports limit delivery earlier before carries timely leaves =
    needs laws exchange carries ports limit delivery earlier before (is_expected laws exchange carries ports limit earlier delivery.moment before timely leaves)

pub holds_the_units : Machines → HoldsTheUnits
holds_the_units laws exchange ports limit deliveries moment after carries timely leaves =
    counted laws.keys exchange carries laws ports limit deliveries moment after (is_expected laws exchange carries ports limit deliveries moment after timely leaves)
