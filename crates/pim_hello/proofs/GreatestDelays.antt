-- What the delays come to as Hellos come and go.
use Rattle.pim_hello.proofs.Words.{◌≡◌, ℕ, Bool, true, false, cond, List, [], ◌∷◌, Option, Some, None, refl, sym, ap}
use Rattle.pim_hello.proofs.Words.{◌∙◌, arith, IfNone, false≢true, and_parts, leb-true, is_eq, match_ordering, Ordering}
use Rattle.pim_hello.proofs.Words.{Less, Equal, Greater, IsTotalOrder, AllByRecursion, IsStrictlySortedBy, is_at}
use Rattle.pim_hello.proofs.Words.{insert_entry, lookup, remove_entry, keys_of, values_of, Parameters, Delays, greatest}
use Rattle.pim_hello.proofs.Words.{delays_sent, all_sent_delays, delays_seen, hello_of_kept, ComesTo, Kept}
use Rattle.std.specs.Prelude.{map, max, option_map, IfSome, IsSome, nat_le, ◌&&◌, ◌≤◌}
use Rattle.pim_hello.specs.declared.delay.LanDelay.{LanDelay}
use Rattle.pim_hello.specs.declared.delays_heard.DelaysHeard.{DelaysHeard}
use Rattle.pim_hello.specs.declared.delays_heard.DelaysHeard.TheVariants.{NotByAll, ByAll}

abbrev numbers : ℕ → ℕ → Option (ℕ × ℕ)
numbers p o = Some (p, o)

-- the greatest of these numbers and those
abbrev pub with_numbers : ℕ → ℕ → Option (ℕ × ℕ) → Option (ℕ × ℕ)
with_numbers p o None = None
with_numbers p o (Some most) = numbers (max p most.0) (max o most.1)

-- with these delays, or none, of one Hello more
abbrev pub with_delays : Option Delays → Option (ℕ × ℕ) → Option (ℕ × ℕ)
with_delays None most = None
with_delays (Some d) most = with_numbers d.propagation d.override_ms most

abbrev if_all : Bool → ℕ → ℕ → Option (ℕ × ℕ)
if_all all p o = cond all (numbers p o) None

abbrev propagation_sent : List Parameters → ℕ
propagation_sent hellos = greatest (map (λ (d : Delays). d.propagation) (delays_sent hellos))

abbrev override_sent : List Parameters → ℕ
override_sent hellos = greatest (map (λ (d : Delays). d.override_ms) (delays_sent hellos))

-- the greatest delays of these Hellos, or none where one of them told none
abbrev pub greatest_sent : List Parameters → Option (ℕ × ℕ)
greatest_sent hellos = if_all (all_sent_delays hellos) (propagation_sent hellos) (override_sent hellos)

if_all_with : (all : Bool) (p o g h : ℕ) → if_all all (max p g) (max o h) ≡ with_numbers p o (if_all all g h)
if_all_with true p o g h = refl
if_all_with false p o g h = refl

abbrev saying : Parameters → Option Delays → Parameters
saying hello lan = record { holdtime = hello.holdtime; lan = lan; priority = hello.priority; generation = hello.generation }

one_saying : (hello : Parameters) (lan : Option Delays) (hellos : List Parameters) → greatest_sent (saying hello lan ∷ hellos) ≡ with_delays lan (greatest_sent hellos)
one_saying hello None hellos = refl
one_saying hello (Some d) hellos = if_all_with (all_sent_delays hellos) d.propagation d.override_ms (propagation_sent hellos) (override_sent hellos)

pub one_in_front : (hello : Parameters) (hellos : List Parameters) → greatest_sent (hello ∷ hellos) ≡ with_delays hello.lan (greatest_sent hellos)
one_in_front hello hellos = one_saying hello hello.lan hellos

-- these Hellos have the same greatest delays
abbrev pub SameGreatest : List Parameters → List Parameters → Type 0
SameGreatest one other = greatest_sent one ≡ greatest_sent other

in_front : (hello : Parameters) (one other : List Parameters) → SameGreatest one other → SameGreatest (hello ∷ one) (hello ∷ other)
in_front hello one other same = one_in_front hello one ∙ ap (with_delays hello.lan) same ∙ sym (one_in_front hello other)

two_in_front : (one other : Parameters) (hellos : List Parameters) → greatest_sent (one ∷ other ∷ hellos) ≡ with_delays one.lan (with_delays other.lan (greatest_sent hellos))
two_in_front one other hellos = one_in_front one (other ∷ hellos) ∙ ap (with_delays one.lan) (one_in_front other hellos)

max_swap : (p q r : ℕ) → max p (max q r) ≡ max q (max p r)
max_swap p q r = omega arith

pair : (p q o r : ℕ) → p ≡ q → o ≡ r → numbers p o ≡ numbers q r
pair p q o r e f = ap (λ n. numbers n o) e ∙ ap (numbers q) f

both_swap : (one other : Option Delays) (most : Option (ℕ × ℕ)) → with_delays one (with_delays other most) ≡ with_delays other (with_delays one most)
both_swap None None most = refl
both_swap None (Some e) None = refl
both_swap None (Some e) (Some m) = refl
both_swap (Some d) None None = refl
both_swap (Some d) None (Some m) = refl
both_swap (Some d) (Some e) None = refl
both_swap (Some d) (Some e) (Some m) = pair _ _ _ _ (max_swap d.propagation e.propagation m.0) (max_swap d.override_ms e.override_ms m.1)

swapped : (one other : Parameters) (hellos : List Parameters) → SameGreatest (one ∷ other ∷ hellos) (other ∷ one ∷ hellos)
swapped one other hellos = two_in_front one other hellos ∙ both_swap one.lan other.lan (greatest_sent hellos) ∙ sym (two_in_front other one hellos)

-- ---- what the delays come to

none≢some : {X Y : Type 0} (x : X) → None ≡ Some x → Y
none≢some x e = cc

abbrev greatest_told : DelaysHeard → Option (ℕ × ℕ)
greatest_told NotByAll = None
greatest_told (ByAll most) = numbers most.propagation most.override_ms

sent_of : (delays_heard : DelaysHeard) (hellos : List Parameters) → ComesTo delays_heard hellos → greatest_sent hellos ≡ greatest_told delays_heard
sent_of NotByAll hellos h = ap (λ all. if_all all (propagation_sent hellos) (override_sent hellos)) h
sent_of (ByAll most) hellos h = ap (λ all. if_all all (propagation_sent hellos) (override_sent hellos)) h.0
    ∙ sym (pair _ _ _ _ h.1 h.2)

not_all : (all : Bool) (p o : ℕ) → if_all all p o ≡ None → all ≡ false
not_all true p o e = none≢some (p, o) (sym e)
not_all false p o e = refl

all_with : (all : Bool) (p o g h : ℕ) → if_all all p o ≡ numbers g h → (all ≡ true) × (g ≡ p) × (h ≡ o)
all_with true p o g h e = let pairs : (p, o) ≡ (g, h) = cc in (refl, sym (ap (λ (n : ℕ × ℕ). n.0) pairs), sym (ap (λ (n : ℕ × ℕ). n.1) pairs))
all_with false p o g h e = none≢some (g, h) e

comes_to : (delays_heard : DelaysHeard) (hellos : List Parameters) → greatest_sent hellos ≡ greatest_told delays_heard → ComesTo delays_heard hellos
comes_to NotByAll hellos e = not_all (all_sent_delays hellos) _ _ e
comes_to (ByAll most) hellos e = all_with (all_sent_delays hellos) _ _ most.propagation most.override_ms e

-- going through them: the greatest so far and those that are left have the greatest of all

numbers_more : (g h p o r s : ℕ) (most : Option (ℕ × ℕ)) → r ≡ max g p → s ≡ max h o → with_numbers r s most ≡ with_numbers g h (with_numbers p o most)
numbers_more g h p o r s None i j = refl
numbers_more g h p o r s (Some m) i j = let e : max r m.0 ≡ max g (max p m.0) = omega arith in let f : max s m.1 ≡ max h (max o m.1) = omega arith in pair _ _ _ _ e f

pub greatest_so_far : (hello : Parameters) (lan : LanDelay) (left rest all : List Parameters) (g h r s : ℕ) → left ≡ hello ∷ rest → hello.lan ≡ Some (delays_seen lan) →
    r ≡ max g lan.propagation → s ≡ max h lan.override_ms → with_numbers g h (greatest_sent left) ≡ greatest_sent all → with_numbers r s (greatest_sent rest) ≡ greatest_sent all
greatest_so_far hello lan left rest all g h r s k l i j before =
    numbers_more g h lan.propagation lan.override_ms r s (greatest_sent rest) i j
    ∙ ap (λ lan. with_numbers g h (with_delays lan (greatest_sent rest))) (sym l) ∙ ap (with_numbers g h) (sym (one_in_front hello rest))
    ∙ ap (λ hellos. with_numbers g h (greatest_sent hellos)) (sym k) ∙ before

-- who tells no less than before

greater_stays : (p q r : ℕ) → q ≤ p → max p (max q r) ≡ max p r
greater_stays p q r h = omega arith

both_le : (p q o r : ℕ) → (nat_le q p && nat_le r o) ≡ true → (q ≤ p) × (r ≤ o)
both_le p q o r e = let parts = and_parts (nat_le q p) (nat_le r o) e in (leb-true q p parts.0, leb-true r o parts.1)

hides : (now before : Option LanDelay) (most : Option (ℕ × ℕ)) → IfNone before (IsSome now → true ≡ false) →
    IfSome now (λ now. IfSome before (λ before. true ≡ (nat_le before.propagation now.propagation && nat_le before.override_ms now.override_ms))) →
    with_delays (option_map delays_seen now) (with_delays (option_map delays_seen before) most) ≡ with_delays (option_map delays_seen now) most
hides None before most first both = refl
hides (Some n) None most first both = absurd (false≢true (sym (first refl)))
hides (Some n) (Some b) None first both = refl
hides (Some n) (Some b) (Some m) first both =
    let e = both_le n.propagation b.propagation n.override_ms b.override_ms (sym both) in
    pair _ _ _ _ (greater_stays n.propagation b.propagation m.0 e.0) (greater_stays n.override_ms b.override_ms m.1 e.1)

-- what the delays come to is that of all Hellos with the same greatest delays
comes_same : (delays_heard : DelaysHeard) (one other : List Parameters) → SameGreatest one other → ComesTo delays_heard one → ComesTo delays_heard other
comes_same delays_heard one other same h = comes_to delays_heard other (sym same ∙ sent_of delays_heard one h)

-- in the place of what was told before
pub in_its_place : (delays_heard : DelaysHeard) (now before : Option LanDelay) (old hello : Parameters) (hellos : List Parameters) → IfNone before (IsSome now → true ≡ false) →
    IfSome now (λ now. IfSome before (λ before. true ≡ (nat_le before.propagation now.propagation && nat_le before.override_ms now.override_ms))) →
    old.lan ≡ option_map delays_seen before → hello.lan ≡ option_map delays_seen now → ComesTo delays_heard (hello ∷ old ∷ hellos) → ComesTo delays_heard (hello ∷ hellos)
in_its_place delays_heard now before old hello hellos first both k l h = comes_same delays_heard (hello ∷ old ∷ hellos) (hello ∷ hellos)
    (two_in_front hello old hellos ∙ ap (λ lan. with_delays lan (with_delays old.lan (greatest_sent hellos))) l ∙ ap (λ lan. with_delays (option_map delays_seen now) (with_delays lan (greatest_sent hellos))) k
    ∙ hides now before (greatest_sent hellos) first both ∙ ap (λ lan. with_delays lan (greatest_sent hellos)) (sym l) ∙ sym (one_in_front hello hellos)) h

-- ---- what is kept of an address

abbrev pub hellos_kept : {A : Type 0} → List (A × Kept) → List Parameters
hellos_kept es = map hello_of_kept (values_of es)

if_same : (delays_heard : Option DelaysHeard) (one other : List Parameters) → SameGreatest one other → IfSome delays_heard (λ delays_heard. ComesTo delays_heard one) → IfSome delays_heard (λ delays_heard. ComesTo delays_heard other)
if_same None one other same h = tt
if_same (Some delays_heard) one other same h = comes_same delays_heard one other same h

module _ {A : Type 0} (cmp : A → A → Ordering) where
  -- what isn't there is removed in vain
  pub without_unknown : (a : A) (es : List (A × Kept)) → lookup (is_at (cmp a)) es ≡ None → remove_entry (is_at (cmp a)) es ≡ es
  without_unknown a [] h = refl
  without_unknown a (e ∷ es) h = step (is_at (cmp a) e.0) h (without_unknown a es)
    where
      step : (found : Bool) → cond found (Some e.1) (lookup (is_at (cmp a)) es) ≡ None → (lookup (is_at (cmp a)) es ≡ None → remove_entry (is_at (cmp a)) es ≡ es) →
          cond found es (e ∷ remove_entry (is_at (cmp a)) es) ≡ e ∷ es
      step true h rest = none≢some e.1 (sym h)
      step false h rest = ap (λ xs. e ∷ xs) (rest h)

  below_is_unknown : (a : A) (es : List (A × Kept)) → AllByRecursion (λ b. cmp a b ≡ Less) (keys_of es) → lookup (is_at (cmp a)) es ≡ None
  below_is_unknown a [] h = refl
  below_is_unknown a (e ∷ es) h = ap (λ o. cond (is_eq o) (Some e.1) (lookup (is_at (cmp a)) es)) h.0 ∙ below_is_unknown a es h.1

  below_below : IsTotalOrder cmp → (a b : A) (ks : List A) → cmp a b ≡ Less → AllByRecursion (λ c. cmp b c ≡ Less) ks → AllByRecursion (λ c. cmp a c ≡ Less) ks
  below_below total a b [] l h = tt
  below_below total a b (k ∷ ks) l h = (total.trans a b k l h.0, below_below total a b ks l h.1)

  kept_step : IsTotalOrder cmp → (a : A) (kept : Kept) (e : A × Kept) (es : List (A × Kept)) (o : Ordering) → cmp a e.0 ≡ o → AllByRecursion (λ b. cmp e.0 b ≡ Less) (keys_of es) →
      SameGreatest (hellos_kept (insert_entry cmp es a kept)) (hello_of_kept kept ∷ hellos_kept (remove_entry (is_at (cmp a)) es)) →
      SameGreatest (hellos_kept (match_ordering o ((a, kept) ∷ e ∷ es) ((e.0, kept) ∷ es) (e ∷ insert_entry cmp es a kept)))
      (hello_of_kept kept ∷ hellos_kept (cond (is_eq o) es (e ∷ remove_entry (is_at (cmp a)) es)))
  kept_step total a kept e es Less c below rest = ap (λ es. greatest_sent (hello_of_kept kept ∷ hellos_kept (e ∷ es)))
      (sym (without_unknown a es (below_is_unknown a es (below_below total a e.0 (keys_of es) c below))))
  kept_step total a kept e es Equal c below rest = refl
  kept_step total a kept e es Greater c below rest = in_front (hello_of_kept e.1) (hellos_kept (insert_entry cmp es a kept)) (hello_of_kept kept ∷ hellos_kept (remove_entry (is_at (cmp a)) es)) rest
      ∙ swapped (hello_of_kept e.1) (hello_of_kept kept) (hellos_kept (remove_entry (is_at (cmp a)) es))

  -- what is kept of an address now is as if it stood in front of what is kept of the others
  pub kept_in_front : IsTotalOrder cmp → (a : A) (kept : Kept) (es : List (A × Kept)) → IsStrictlySortedBy cmp (keys_of es) →
      SameGreatest (hellos_kept (insert_entry cmp es a kept)) (hello_of_kept kept ∷ hellos_kept (remove_entry (is_at (cmp a)) es))
  unfolding IsStrictlySortedBy
  kept_in_front total a kept [] s = refl
  kept_in_front total a kept (e ∷ es) s = kept_step total a kept e es (cmp a e.0) refl s.0 (kept_in_front total a kept es s.1)

  -- and so is what was kept of it before
  old_in_front : (a : A) (old : Kept) (es : List (A × Kept)) → lookup (is_at (cmp a)) es ≡ Some old →
      SameGreatest (hellos_kept es) (hello_of_kept old ∷ hellos_kept (remove_entry (is_at (cmp a)) es))
  old_in_front a old [] h = none≢some old h
  old_in_front a old (e ∷ es) h = step (is_at (cmp a) e.0) h (old_in_front a old es)
    where
      step : (found : Bool) → cond found (Some e.1) (lookup (is_at (cmp a)) es) ≡ Some old →
          (lookup (is_at (cmp a)) es ≡ Some old → SameGreatest (hellos_kept es) (hello_of_kept old ∷ hellos_kept (remove_entry (is_at (cmp a)) es))) →
          SameGreatest (hellos_kept (e ∷ es)) (hello_of_kept old ∷ hellos_kept (cond found es (e ∷ remove_entry (is_at (cmp a)) es)))
      step true h rest = let same : e.1 ≡ old = cc in ap (λ kept. greatest_sent (hello_of_kept kept ∷ hellos_kept es)) same
      step false h rest = in_front (hello_of_kept e.1) (hellos_kept es) (hello_of_kept old ∷ hellos_kept (remove_entry (is_at (cmp a)) es)) (rest h)
          ∙ swapped (hello_of_kept e.1) (hello_of_kept old) (hellos_kept (remove_entry (is_at (cmp a)) es))

  -- what is known once a neighbour, of which this was kept, tells these delays
  pub known_after : IsTotalOrder cmp → (delays_heard then : Option DelaysHeard) (known : Option Kept) (a : A) (kept : Kept) (es new : List (A × Kept)) → IsStrictlySortedBy cmp (keys_of es) →
      known ≡ lookup (is_at (cmp a)) es → new ≡ insert_entry cmp es a kept → IfSome delays_heard (λ delays_heard. ComesTo delays_heard (hellos_kept es)) →
      (known ≡ None → (hello : Parameters) (hellos : List Parameters) → hello.lan ≡ option_map delays_seen kept.parameters.lan →
      IfSome delays_heard (λ delays_heard. ComesTo delays_heard hellos) → IfSome then (λ delays_heard. ComesTo delays_heard (hello ∷ hellos))) →
      IfSome known (λ old. (before hello : Parameters) (hellos : List Parameters) → before.lan ≡ option_map delays_seen old.parameters.lan → hello.lan ≡ option_map delays_seen kept.parameters.lan →
      IfSome delays_heard (λ delays_heard. ComesTo delays_heard (before ∷ hellos)) → IfSome then (λ delays_heard. ComesTo delays_heard (hello ∷ hellos))) →
      IfSome then (λ delays_heard. ComesTo delays_heard (hellos_kept new))
  known_after total delays_heard then None a kept es new s k n h first again =
      if_same then (hello_of_kept kept ∷ hellos_kept es) (hellos_kept new)
      (ap (λ es. greatest_sent (hello_of_kept kept ∷ hellos_kept es)) (sym (without_unknown a es (sym k))) ∙ sym (kept_in_front total a kept es s) ∙ ap (λ es. greatest_sent (hellos_kept es)) (sym n))
      (first refl (hello_of_kept kept) (hellos_kept es) refl h)
  known_after total delays_heard then (Some old) a kept es new s k n h first again =
      if_same then (hello_of_kept kept ∷ hellos_kept (remove_entry (is_at (cmp a)) es)) (hellos_kept new) (sym (kept_in_front total a kept es s) ∙ ap (λ es. greatest_sent (hellos_kept es)) (sym n))
      (again (hello_of_kept old) (hello_of_kept kept) (hellos_kept (remove_entry (is_at (cmp a)) es)) refl refl
      (if_same delays_heard (hellos_kept es) (hello_of_kept old ∷ hellos_kept (remove_entry (is_at (cmp a)) es)) (old_in_front a old es (sym k)) h))
