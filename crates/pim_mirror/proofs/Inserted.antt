-- Entries of a table of neighbours that are inserted in the order of their addresses, none of which stands in it.
use Rattle.pim_mirror.proofs.Words.{◌≡◌, ◌≢◌, ◌∙◌, ℕ, suc, ◌+◌, max, Bool, true, false, cond, List, [], ◌∷◌, ◌++◌, length, map}
use Rattle.pim_mirror.proofs.Words.{Option, None, Some, refl, ap, arith, is_some, AllByRecursion, lookup, Less, Equal, Greater}
use Rattle.pim_mirror.proofs.Words.{nat_cmp, match_ordering, slice_cmp, slice_cmp-IsAntisymmetric, nat_cmp-IsAntisymmetric}
use Rattle.pim_mirror.proofs.Words.{Parameters, Delays, greatest, delays_sent, all_sent_delays, jp_override_interval}
use Rattle.std.specs.BTreeMap.{insert_entry}
use Rattle.pim_hello.specs.Neighbours.{Neighbour, is_address}

abbrev pub Entry : Type 0
Entry = List ℕ × Neighbour

-- no entry has this address
abbrev pub IsApart : List ℕ → List Entry → Type 0
IsApart address entries = AllByRecursion (λ (entry : Entry). address ≢ entry.0) entries

abbrev pub inserted : List Entry → Entry → List Entry
inserted entries entry = insert_entry (slice_cmp nat_cmp) entries entry.0 entry.1

unfoldable pub all_inserted : List Entry → List Entry → List Entry
all_inserted entries [] = entries
all_inserted entries (entry ∷ more) = all_inserted (inserted entries entry) more

-- each of them is new where it is inserted
unfoldable pub AreApart : List Entry → List Entry → Type 0
AreApart entries [] = Unit {0}
AreApart entries (entry ∷ more) = IsApart entry.0 entries × AreApart (inserted entries entry) more

equal_is : (a b : List ℕ) → slice_cmp nat_cmp a b ≡ Equal → a ≡ b
equal_is a b e = slice_cmp-IsAntisymmetric nat_cmp-IsAntisymmetric a b e

-- ---- what doesn't see the order

module _ {X : Type 0} (f : List Entry → X) (more : (e : Entry) (xs ys : List Entry) → f xs ≡ f ys → f (e ∷ xs) ≡ f (e ∷ ys)) (swaps : (a b : Entry) (xs : List Entry) → f (a ∷ b ∷ xs) ≡ f (b ∷ a ∷ xs)) where
  pub as_first : (a : List ℕ) (v : Neighbour) (es : List Entry) → IsApart a es → f (insert_entry (slice_cmp nat_cmp) es a v) ≡ f ((a, v) ∷ es)
  as_first a v [] apart = refl
  as_first a v (e ∷ es) apart =
      elim (slice_cmp nat_cmp a e.0) as (λ o. slice_cmp nat_cmp a e.0 ≡ o → f (match_ordering o ((a, v) ∷ e ∷ es) ((e.0, v) ∷ es) (e ∷ insert_entry (slice_cmp nat_cmp) es a v)) ≡ f ((a, v) ∷ e ∷ es)) [
        | Less ↦ λ c. refl
        | Equal ↦ λ c. absurd (apart.0 (equal_is a e.0 c))
        | Greater ↦ λ c. more e (insert_entry (slice_cmp nat_cmp) es a v) ((a, v) ∷ es) (as_first a v es apart.1) ∙ swaps e (a, v) es
      ] refl

  behind : (xs ys zs : List Entry) → f ys ≡ f zs → f (xs ++ ys) ≡ f (xs ++ zs)
  behind [] ys zs same = same
  behind (x ∷ xs) ys zs same = more x (xs ++ ys) (xs ++ zs) (behind xs ys zs same)

  pulled : (e : Entry) (xs ys : List Entry) → f (xs ++ e ∷ ys) ≡ f (e ∷ xs ++ ys)
  pulled e [] ys = refl
  pulled e (x ∷ xs) ys = more x (xs ++ e ∷ ys) (e ∷ xs ++ ys) (pulled e xs ys) ∙ swaps x e (xs ++ ys)

  pub in_any_order : (es new : List Entry) → AreApart es new → f (all_inserted es new) ≡ f (new ++ es)
  unfolding all_inserted AreApart
  in_any_order es [] apart = refl
  in_any_order es (n ∷ new) apart =
      in_any_order (inserted es n) new apart.1 ∙ behind new (inserted es n) (n ∷ es) (as_first n.0 n.1 es apart.0) ∙ pulled n new es

-- ---- what holds of each

module _ (P : Entry → Type 0) where
  pub holds_inserted : (a : List ℕ) (v : Neighbour) (es : List Entry) → IsApart a es → P (a, v) → AllByRecursion P es → AllByRecursion P (insert_entry (slice_cmp nat_cmp) es a v)
  holds_inserted a v [] apart here all = (here, tt)
  holds_inserted a v (e ∷ es) apart here all =
      elim (slice_cmp nat_cmp a e.0) as (λ o. slice_cmp nat_cmp a e.0 ≡ o → AllByRecursion P (match_ordering o ((a, v) ∷ e ∷ es) ((e.0, v) ∷ es) (e ∷ insert_entry (slice_cmp nat_cmp) es a v))) [
        | Less ↦ λ c. (here, (all.0, all.1))
        | Equal ↦ λ c. absurd (apart.0 (equal_is a e.0 c))
        | Greater ↦ λ c. (all.0, holds_inserted a v es apart.1 here all.1)
      ] refl

  pub each_holds : (es new : List Entry) → AreApart es new → AllByRecursion P es → AllByRecursion P new → AllByRecursion P (all_inserted es new)
  unfolding all_inserted AreApart
  each_holds es [] apart old more = old
  each_holds es (n ∷ new) apart old more = each_holds (inserted es n) new apart.1 (holds_inserted n.0 n.1 es apart.0 more.0 old) more.1

-- ---- how many there are

pub count_inserted : (a : List ℕ) (v : Neighbour) (es : List Entry) → IsApart a es → length (insert_entry (slice_cmp nat_cmp) es a v) ≡ suc (length es)
count_inserted a v es apart = as_first (λ (es : List Entry). length es) (λ e xs ys same. ap suc same) (λ a b xs. refl) a v es apart

pub count_all : (es new : List Entry) → AreApart es new → length (all_inserted es new) ≡ length (new ++ es)
count_all es new apart = in_any_order (λ (es : List Entry). length es) (λ e xs ys same. ap suc same) (λ a b xs. refl) es new apart

-- ---- whether an address is known

module _ (address : List ℕ) where
  abbrev pub is_known : List Entry → Bool
  is_known entries = is_some (lookup (is_address address) entries)

  known_more : (e : Entry) (xs ys : List Entry) → is_known xs ≡ is_known ys → is_known (e ∷ xs) ≡ is_known (e ∷ ys)
  known_more e xs ys same =
      elim (is_address address e.0) as (λ b. is_some (cond b (Some e.1) (lookup (is_address address) xs)) ≡ is_some (cond b (Some e.1) (lookup (is_address address) ys))) [
        | true ↦ refl
        | false ↦ same
      ]

  known_either : (b c : Bool) (v w : Neighbour) (o : Option Neighbour) → is_some (cond b (Some v) (cond c (Some w) o)) ≡ is_some (cond c (Some w) (cond b (Some v) o))
  known_either true true v w o = refl
  known_either true false v w o = refl
  known_either false true v w o = refl
  known_either false false v w o = refl

  pub known_all : (es new : List Entry) → AreApart es new → is_known (all_inserted es new) ≡ is_known (new ++ es)
  known_all es new apart =
      in_any_order is_known known_more (λ a b xs. known_either (is_address address a.0) (is_address address b.0) a.1 b.1 (lookup (is_address address) xs)) es new apart

-- ---- the override interval

abbrev pub hellos_in : List Entry → List Parameters
hellos_in entries = map (λ (entry : Entry). entry.1.parameters) entries

abbrev sent_if : Option Delays → Bool → Bool
sent_if lan others = elim lan as (λ _. Bool) [ None ↦ false | Some delays ↦ others ]

sent_both : (a b : Option Delays) (others : Bool) → sent_if a (sent_if b others) ≡ sent_if b (sent_if a others)
sent_both None None others = refl
sent_both None (Some d) others = refl
sent_both (Some d) None others = refl
sent_both (Some d) (Some e) others = refl

sent_all : (es new : List Entry) → AreApart es new → all_sent_delays (hellos_in (all_inserted es new)) ≡ all_sent_delays (hellos_in (new ++ es))
sent_all es new apart =
    in_any_order (λ (es : List Entry). all_sent_delays (hellos_in es)) (λ e xs ys same. ap (sent_if e.1.parameters.lan) same)
    (λ a b xs. sent_both a.1.parameters.lan b.1.parameters.lan (all_sent_delays (hellos_in xs))) es new apart

module _ (number : Delays → ℕ) where
  abbrev with_delays : Option Delays → List Delays → List Delays
  with_delays lan others = elim lan as (λ _. List Delays) [ None ↦ others | Some delays ↦ delays ∷ others ]

  abbrev greatest_of : List Delays → ℕ
  greatest_of delays = greatest (map number delays)

  greatest_more : (lan : Option Delays) (xs ys : List Delays) → greatest_of xs ≡ greatest_of ys → greatest_of (with_delays lan xs) ≡ greatest_of (with_delays lan ys)
  greatest_more None xs ys same = same
  greatest_more (Some d) xs ys same = ap (max (number d)) same

  turned : (a b c : ℕ) → max a (max b c) ≡ max b (max a c)
  turned a b c = omega arith

  greatest_both : (a b : Option Delays) (xs : List Delays) → greatest_of (with_delays a (with_delays b xs)) ≡ greatest_of (with_delays b (with_delays a xs))
  greatest_both None None xs = refl
  greatest_both None (Some d) xs = refl
  greatest_both (Some d) None xs = refl
  greatest_both (Some d) (Some e) xs = turned (number d) (number e) (greatest_of xs)

  greatest_all : (es new : List Entry) → AreApart es new → greatest_of (delays_sent (hellos_in (all_inserted es new))) ≡ greatest_of (delays_sent (hellos_in (new ++ es)))
  greatest_all es new apart =
      in_any_order (λ (es : List Entry). greatest_of (delays_sent (hellos_in es)))
      (λ e xs ys same. greatest_more e.1.parameters.lan (delays_sent (hellos_in xs)) (delays_sent (hellos_in ys)) same)
      (λ a b xs. greatest_both a.1.parameters.lan b.1.parameters.lan (delays_sent (hellos_in xs))) es new apart

pub interval_all : (propagation override_ms : ℕ) (es new : List Entry) → AreApart es new →
    jp_override_interval propagation override_ms (hellos_in (all_inserted es new)) ≡ jp_override_interval propagation override_ms (hellos_in (new ++ es))
interval_all propagation override_ms es new apart =
    let first = greatest_all (λ (d : Delays). d.propagation) es new apart in
    let second = greatest_all (λ (d : Delays). d.override_ms) es new apart in
    ap (λ b. cond b (max propagation (greatest_of (λ (d : Delays). d.propagation) (delays_sent (hellos_in (all_inserted es new)))) + max override_ms (greatest_of (λ (d : Delays). d.override_ms) (delays_sent (hellos_in (all_inserted es new))))) 3000) (sent_all es new apart)
    ∙ ap (λ (n : ℕ). cond (all_sent_delays (hellos_in (new ++ es))) (max propagation n + max override_ms (greatest_of (λ (d : Delays). d.override_ms) (delays_sent (hellos_in (all_inserted es new))))) 3000) first
    ∙ ap (λ (n : ℕ). cond (all_sent_delays (hellos_in (new ++ es))) (max propagation (greatest_of (λ (d : Delays). d.propagation) (delays_sent (hellos_in (new ++ es)))) + max override_ms n) 3000) second
