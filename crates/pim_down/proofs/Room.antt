-- How many records a message may make: no more than were held and those that it creates anew.
use Rattle.pim_down.proofs.Words.{◌≡◌, ℕ, ◌+◌, ◌≤◌, Bool, true, false, cond, ◌&&◌, ◌||◌, not, List, [], ◌∷◌, Option, Some, None, length, eqb, refl, sym, ap, subst, ◌∙◌, arith, is_some, false≢true, What, Star, Source, Rpt, Key, Machine, Start, Record, Event, same_key, on_prune, on_star_join, IsBelow, IsAscending, machine_at, count_on, key_of, on_own, is_star_join, is_rpt_of, on_rpts, effect, act, act_all, creates_by, creates, is_new, count_new}
use Rattle.pim_down.proofs.Order.{same_keys, same_itself}
use Rattle.pim_down.proofs.Map.{none_below}
use Rattle.pim_down.proofs.Act.{at_act, IsAscending-act}

-- ---- records in ascending order against a list of keys that has them all

-- whether the key is among these
has : Key (List ℕ) → List (Key (List ℕ)) → Bool
has key [] = false
has key (k ∷ keys) = same_key key k || has key keys

-- without the first that is this key
without : Key (List ℕ) → List (Key (List ℕ)) → List (Key (List ℕ))
without key [] = []
without key (k ∷ keys) = cond (same_key key k) keys (k ∷ without key keys)

one : Bool → ℕ
one b = cond b 1 0

-- how many pass the test
tally : (Key (List ℕ) → Bool) → List (Key (List ℕ)) → ℕ
tally test [] = 0
tally test (k ∷ keys) = one (test k) + tally test keys

tally_held : (Key (List ℕ) → Bool) → List (Record (List ℕ)) → ℕ
tally_held test [] = 0
tally_held test (held ∷ records) = one (test held.key) + tally_held test records

keys_of : List (Record (List ℕ)) → List (Key (List ℕ))
keys_of [] = []
keys_of (held ∷ records) = held.key ∷ keys_of records

tally_without : (test : Key (List ℕ) → Bool) (key : Key (List ℕ)) (keys : List (Key (List ℕ))) → has key keys ≡ true → tally test keys ≡ one (test key) + tally test (without key keys)
unfolding has without tally
tally_without test key [] e = absurd (false≢true e)
tally_without test key (k ∷ keys) e =
    elim (same_key key k) as (λ b. same_key key k ≡ b → (b || has key keys) ≡ true → one (test k) + tally test keys ≡ one (test key) + tally test (cond b keys (k ∷ without key keys))) [
      | true ↦ λ s f. ap (λ (j : Key (List ℕ)). one (test j) + tally test keys) (sym (same_keys key k s))
      | false ↦ λ s f. let rest = tally_without test key keys f in omega arith
    ] refl e

has_without : (j key : Key (List ℕ)) (keys : List (Key (List ℕ))) → same_key j key ≡ false → has j keys ≡ true → has j (without key keys) ≡ true
unfolding has without
has_without j key [] differs e = e
has_without j key (k ∷ keys) differs e =
    elim (same_key key k) as (λ b. same_key key k ≡ b → has j (cond b keys (k ∷ without key keys)) ≡ true) [
      | true ↦ λ s. let other : same_key j k ≡ false = subst (λ (x : Key (List ℕ)). same_key j x ≡ false) (same_keys key k s) differs in rw other at e
      | false ↦ λ s. elim (same_key j k) as (λ b. same_key j k ≡ b → (b || has j keys) ≡ true → (b || has j (without key keys)) ≡ true) [
        | true ↦ λ t f. refl
        | false ↦ λ t f. has_without j key keys differs f
      ] refl e
    ] refl

-- every key that is held is among these
Covers : List (Key (List ℕ)) → List (Record (List ℕ)) → Type 0
Covers keys records = (key : Key (List ℕ)) → is_some (machine_at key records) ≡ true → has key keys ≡ true

covered : (test : Key (List ℕ) → Bool) (records : List (Record (List ℕ))) (keys : List (Key (List ℕ))) → IsAscending records → Covers keys records → tally_held test records ≤ tally test keys
unfolding IsBelow IsAscending machine_at Covers tally_held
covered test [] keys a covers = omega arith
covered test (held ∷ records) keys a covers =
    let here : has held.key keys ≡ true = covers held.key (rw (same_itself held.key) refl) in
    let rest : Covers (without held.key keys) records = λ key some. later key some (same_key key held.key) refl in
    let less = covered test records (without held.key keys) a.1 rest in
    let split = tally_without test held.key keys here in
    omega arith
  where
    later : (key : Key (List ℕ)) → is_some (machine_at key records) ≡ true → (b : Bool) → same_key key held.key ≡ b → has key (without held.key keys) ≡ true
    later key some true s = absurd (false≢true (sym (ap is_some (none_below held.key records a.0)) ∙ subst (λ (k : Key (List ℕ)). is_some (machine_at k records) ≡ true) (same_keys key held.key s) some))
    later key some false s = has_without key held.key keys s (covers key (rw s some))

-- ---- what an event may add

own_creates : (joins : Bool) (what : What (List ℕ)) (start : Start) → is_some (on_own joins what start None) ≡ true → creates_by joins what ≡ true
unfolding on_prune
own_creates true Star start e = refl
own_creates true (Source s) start e = refl
own_creates true (Rpt s) start e = e
own_creates false Star start e = e
own_creates false (Source s) start e = e
own_creates false (Rpt s) start e = refl

rpts_none : (port : ℕ) (group : List ℕ) (key : Key (List ℕ)) → on_rpts port group key None ≡ None
unfolding on_star_join
rpts_none port group key = elim (is_rpt_of port group key) as (λ b. cond b (on_star_join None) None ≡ None) [ true ↦ refl | false ↦ refl ]

-- where a machine is held afterwards that wasn't before, the event creates it
effect_none : (port : ℕ) (start : Start) (event : Event) (key : Key (List ℕ)) → is_some (effect port start event key None) ≡ true → (same_key (key_of port event) key ≡ true) × (creates event ≡ true)
effect_none port start event key e = by (same_key (key_of port event) key) refl e
  where
    others : (s : Bool) → is_some (cond s (on_rpts port event.group key None) None) ≡ true → ⊥
    others true f = false≢true (sym (ap is_some (rpts_none port event.group key)) ∙ f)
    others false f = false≢true f

    by : (b : Bool) → same_key (key_of port event) key ≡ b → is_some (cond b (on_own event.joins event.what start None) (cond (is_star_join event) (on_rpts port event.group key None) None)) ≡ true → (same_key (key_of port event) key ≡ true) × (creates event ≡ true)
    by true s f = (s, own_creates event.joins event.what start f)
    by false s f = absurd (others (is_star_join event) f)

-- the keys that are covered, and those of the events that create anew
tally_new : (Key (List ℕ) → Bool) → ℕ → List (Record (List ℕ)) → List Event → ℕ
tally_new test port held [] = 0
tally_new test port held (event ∷ events) = cond (is_new port held event) (one (test (key_of port event))) 0 + tally_new test port held events

record CoveredAfter (test : Key (List ℕ) → Bool) (bound : ℕ) (records : List (Record (List ℕ))) : Type 0 where
  keys : List (Key (List ℕ))
  covers : Covers keys records
  count : tally test keys ≡ bound

act_covers : (port : ℕ) (start : Start) (event : Event) (held records : List (Record (List ℕ))) (keys : List (Key (List ℕ))) → IsAscending records → Covers keys held → Covers keys records → Covers (cond (is_new port held event) (key_of port event ∷ keys) keys) (act port start event records)
unfolding has Covers
act_covers port start event held records keys a covers_held covers key some = before (machine_at key records) refl
  where
    added : (b : Bool) → has key keys ≡ true → has key (cond b (key_of port event ∷ keys) keys) ≡ true
    added true e = rw e (or_true (same_key key (key_of port event)))
      where
        or_true : (c : Bool) → (c || true) ≡ true
        or_true true = refl
        or_true false = refl
    added false e = e

    anew : creates event ≡ true → same_key (key_of port event) key ≡ true → (b : Bool) → is_some (machine_at (key_of port event) held) ≡ b → has key (cond (creates event && not b) (key_of port event ∷ keys) keys) ≡ true
    anew new same true e = rw new (subst (λ (k : Key (List ℕ)). has k keys ≡ true) (same_keys (key_of port event) key same) (covers_held (key_of port event) e))
    anew new same false e = let back : same_key key (key_of port event) ≡ true = subst (λ (k : Key (List ℕ)). same_key k (key_of port event) ≡ true) (same_keys (key_of port event) key same) (same_itself (key_of port event)) in rw (new, back) refl

    before : (m : Option Machine) → machine_at key records ≡ m → has key (cond (is_new port held event) (key_of port event ∷ keys) keys) ≡ true
    before (Some machine) e = added (is_new port held event) (covers key (rw e refl))
    before None e =
        let effect_some : is_some (effect port start event key None) ≡ true = subst (λ (m : Option Machine). is_some (effect port start event key m) ≡ true) e (sym (ap is_some (at_act port start event records a key)) ∙ some) in
        let created = effect_none port start event key effect_some in
        anew created.1 created.0 (is_some (machine_at (key_of port event) held)) refl

tally_added : (test : Key (List ℕ) → Bool) (b : Bool) (key : Key (List ℕ)) (keys : List (Key (List ℕ))) → tally test (cond b (key ∷ keys) keys) ≡ cond b (one (test key)) 0 + tally test keys
unfolding tally
tally_added test true key keys = refl
tally_added test false key keys = omega arith

covers_added : (b : Bool) (key : Key (List ℕ)) (keys : List (Key (List ℕ))) (held : List (Record (List ℕ))) → Covers keys held → Covers (cond b (key ∷ keys) keys) held
unfolding has Covers
covers_added true key keys held covers k some = rw (covers k some) (or_true (same_key k key))
  where
    or_true : (c : Bool) → (c || true) ≡ true
    or_true true = refl
    or_true false = refl
covers_added false key keys held covers k some = covers k some

all_covered : (test : Key (List ℕ) → Bool) (port : ℕ) (start : Start) (events : List Event) (held records : List (Record (List ℕ))) (keys : List (Key (List ℕ))) → IsAscending records → Covers keys held → Covers keys records → CoveredAfter test (tally test keys + tally_new test port held events) (act_all port start events records)
unfolding act_all tally_new
all_covered test port start [] held records keys a covers_held covers = record { keys = keys; covers = covers; count = omega arith }
all_covered test port start (event ∷ events) held records keys a covers_held covers =
    let more = cond (is_new port held event) (key_of port event ∷ keys) keys in
    let rest = all_covered test port start events held (act port start event records) more (IsAscending-act port start event records a) (covers_added (is_new port held event) (key_of port event) keys held covers_held) (act_covers port start event held records keys a covers_held covers) in
    let added = tally_added test (is_new port held event) (key_of port event) keys in
    record { keys = rest.keys; covers = rest.covers; count = omega (arith, rest.count) }

covers_itself : (records : List (Record (List ℕ))) → Covers (keys_of records) records
unfolding has keys_of Covers machine_at
covers_itself [] key some = absurd (false≢true some)
covers_itself (held ∷ records) key some =
    elim (same_key key held.key) as (λ b. same_key key held.key ≡ b → is_some (cond b (Some held.machine) (machine_at key records)) ≡ true → (b || has key (keys_of records)) ≡ true) [
      | true ↦ λ s e. refl
      | false ↦ λ s e. covers_itself records key e
    ] refl some

tally_keys : (test : Key (List ℕ) → Bool) (records : List (Record (List ℕ))) → tally test (keys_of records) ≡ tally_held test records
unfolding tally keys_of tally_held
tally_keys test [] = refl
tally_keys test (held ∷ records) = ap (λ n. one (test held.key) + n) (tally_keys test records)

bounded : (test : Key (List ℕ) → Bool) (port : ℕ) (start : Start) (events : List Event) (held : List (Record (List ℕ))) → IsAscending held → IsAscending (act_all port start events held) → tally_held test (act_all port start events held) ≤ tally_held test held + tally_new test port held events
bounded test port start events held a a' =
    let after = all_covered test port start events held held (keys_of held) a (covers_itself held) (covers_itself held) in
    let less = covered test (act_all port start events held) after.keys a' after.covers in
    let count = after.count in
    let keys = tally_keys test held in
    omega arith

-- ---- the two counts that are asked for

tally_all : (records : List (Record (List ℕ))) → tally_held (λ _. true) records ≡ length records
unfolding tally_held one
tally_all [] = refl
tally_all (held ∷ records) = omega (arith, tally_all records)

tally_port : (port : ℕ) (records : List (Record (List ℕ))) → tally_held (λ (key : Key (List ℕ)). eqb key.port port) records ≡ count_on port records
unfolding tally_held one count_on
tally_port port [] = refl
tally_port port (held ∷ records) = ap (λ n. cond (eqb held.key.port port) 1 0 + n) (tally_port port records)

one_at_most : (b : Bool) → one b ≤ 1
unfolding one
one_at_most true = omega arith
one_at_most false = omega arith

new_at_most : (test : Key (List ℕ) → Bool) (port : ℕ) (held : List (Record (List ℕ))) (events : List Event) → tally_new test port held events ≤ count_new port held events
unfolding tally_new count_new
new_at_most test port held [] = omega arith
new_at_most test port held (event ∷ events) = by (is_new port held event) (new_at_most test port held events)
  where
    by : (b : Bool) → tally_new test port held events ≤ count_new port held events → cond b (one (test (key_of port event))) 0 + tally_new test port held events ≤ cond b 1 0 + count_new port held events
    by true h = omega (arith, one_at_most (test (key_of port event)))
    by false h = omega arith

-- records that a message leaves are no more than were held and those that it creates anew
pub room : (port : ℕ) (start : Start) (events : List Event) (held : List (Record (List ℕ))) → IsAscending held → IsAscending (act_all port start events held) → length (act_all port start events held) ≤ length held + count_new port held events
room port start events held a a' =
    let b = bounded (λ _. true) port start events held a a' in
    let n = new_at_most (λ _. true) port held events in
    let old = tally_all held in
    let new = tally_all (act_all port start events held) in
    omega arith

new_elsewhere : (port other : ℕ) (held : List (Record (List ℕ))) (events : List Event) → eqb port other ≡ false → tally_new (λ (key : Key (List ℕ)). eqb key.port other) port held events ≡ 0
unfolding tally_new one
new_elsewhere port other held [] differs = refl
new_elsewhere port other held (event ∷ events) differs = rw (differs, new_elsewhere port other held events differs) (by (is_new port held event))
  where
    by : (b : Bool) → cond b (cond false 1 0) 0 + 0 ≡ 0
    by true = omega arith
    by false = omega arith

pub room_on : (port : ℕ) (start : Start) (events : List Event) (held : List (Record (List ℕ))) → IsAscending held → IsAscending (act_all port start events held) → count_on port (act_all port start events held) ≤ count_on port held + count_new port held events
room_on port start events held a a' =
    let b = bounded (λ (key : Key (List ℕ)). eqb key.port port) port start events held a a' in
    let n = new_at_most (λ (key : Key (List ℕ)). eqb key.port port) port held events in
    let old = tally_port port held in
    let new = tally_port port (act_all port start events held) in
    omega arith

pub room_elsewhere : (port other : ℕ) (start : Start) (events : List Event) (held : List (Record (List ℕ))) → eqb port other ≡ false → IsAscending held → IsAscending (act_all port start events held) → count_on other (act_all port start events held) ≤ count_on other held
room_elsewhere port other start events held differs a a' =
    let b = bounded (λ (key : Key (List ℕ)). eqb key.port other) port start events held a a' in
    let n = new_elsewhere port other held events differs in
    let old = tally_port other held in
    let new = tally_port other (act_all port start events held) in
    omega arith
