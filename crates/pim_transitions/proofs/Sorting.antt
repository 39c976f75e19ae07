-- Marks sorted by a closure that compares their keys.
use Rattle.pim_transitions.proofs.Words.{◌≡◌, ℕ, suc, ◌<◌, Bool, true, false, cond, List, [], ◌∷◌, map, filter, length}
use Rattle.pim_transitions.proofs.Words.{get_or, add-one, refl, sym, ap, subst, ◌∙◌, arith, Ordering, is_lt}
use Rattle.pim_transitions.proofs.Words.{IsStrictWeakOrder, IsSortedBy, IsStableBy, ties, What, Star, Source, Rpt, Key}
use Rattle.pim_transitions.proofs.Words.{key_cmp, Event, key_of, what_seen, event_seen, Rise, same_mark, KeepTheirOrder}
use Rattle.std.specs.Borrow.{Bor}
use Rattle.std.specs.Fn.{Mut, Called, ComparesAs}
use Rattle.std.proofs.lemmas.Fn.{always_returns_same}
use Rattle.std.proofs.lemmas.List.Sorted.{ranks_by}
use Rattle.pim_down.specs.declared.machines.event.Event.{Event as EventOf}
use Rattle.pim_transitions.proofs.Keys.{key_total, tie}

pub stays_by : {A F : Type 0} (key : A → Key (List ℕ)) {g : Mut F (Bor A × (Bor A × Unit {0})) Ordering} {f : F} (xs ys : List A)
    → ((lt : A → A → Bool) → IsStrictWeakOrder lt → ComparesAs g lt f → IsStableBy lt xs ys)
    → ((a : Bor A × (Bor A × Unit {0})) (r : Ordering) (f' : F) → Called g f a r f' → (r ≡ key_cmp (key a.0.now) (key a.1.0.now)) × (f' ≡ f))
    → IsStableBy (λ (x y : A). is_lt (key_cmp (key x) (key y))) xs ys
stays_by key {g = g} {f = f} xs ys stable h =
    stable (λ x y. is_lt (key_cmp (key x) (key y)))
    (ranks_by key_total key)
    (always_returns_same g (λ a r. is_lt r ≡ is_lt (key_cmp (key a.0.now) (key a.1.0.now))) f (λ a r f' k. (ap is_lt (h a r f' k).0, (h a r f' k).1)))

pub sorts_by : {A F : Type 0} (key : A → Key (List ℕ)) {g : Mut F (Bor A × (Bor A × Unit {0})) Ordering} {f : F} (ys : List A)
    → ((lt : A → A → Bool) → IsStrictWeakOrder lt → ComparesAs g lt f → IsSortedBy lt ys)
    → ((a : Bor A × (Bor A × Unit {0})) (r : Ordering) (f' : F) → Called g f a r f' → (r ≡ key_cmp (key a.0.now) (key a.1.0.now)) × (f' ≡ f))
    → IsSortedBy (λ (x y : A). is_lt (key_cmp (key x) (key y))) ys
sorts_by key {g = g} {f = f} ys sorted h =
    sorted (λ x y. is_lt (key_cmp (key x) (key y)))
    (ranks_by key_total key)
    (always_returns_same g (λ a r. is_lt r ≡ is_lt (key_cmp (key a.0.now) (key a.1.0.now))) f (λ a r f' k. (ap is_lt (h a r f' k).0, (h a r f' k).1)))

kept_mapped : {A B : Type 0} (f : A → B) (test : B → Bool) (xs : List A) → filter test (map f xs) ≡ map f (filter (λ x. test (f x)) xs)
kept_mapped f test [] = refl
kept_mapped {A} f test (x ∷ xs) = by (kept_mapped f test xs) (test (f x))
  where
    by : filter test (map f xs) ≡ map f (filter (λ x. test (f x)) xs) → (b : Bool) → cond b (f x ∷ filter test (map f xs)) (filter test (map f xs)) ≡ map f (cond b (x ∷ filter (λ x. test (f x)) xs) (filter (λ x. test (f x)) xs))
    by rest true = ap (λ ys. f x ∷ ys) rest
    by rest false = rest

module _ {A : Type 0} (bytes_of : A → List ℕ) where
  abbrev pub mark_key : EventOf A → Key (List ℕ)
  mark_key event = key_of 0 (event_seen bytes_of event)

  rises : (ys : List (EventOf A)) → ((k : ℕ) (d : EventOf A) → suc k < length ys → is_lt (key_cmp (mark_key (get_or ys (suc k) d)) (mark_key (get_or ys k d))) ≡ false) → Rise (map (event_seen bytes_of) ys)
  unfolding Rise
  rises [] up = tt
  rises (y ∷ []) up = (tt, tt)
  rises (y ∷ z ∷ ys) up = (up 0 y (omega arith), rises (z ∷ ys) (λ k d within. up (suc k) d (omega (arith, within))))

  pub rise_of : (ys : List (EventOf A)) → IsSortedBy (λ (x y : EventOf A). is_lt (key_cmp (mark_key x) (mark_key y))) ys → Rise (map (event_seen bytes_of) ys)
  rise_of ys sorted = rises ys (λ k d within. subst (λ n. is_lt (key_cmp (mark_key (get_or ys n d)) (mark_key (get_or ys k d))) ≡ false) (add-one k) (sorted k d (omega arith) (omega (arith, within))))

  module _ (address_of : List ℕ → A) (back : (b : List ℕ) → bytes_of (address_of b) ≡ b) where
    what_of : What (List ℕ) → What A
    what_of Star = Star
    what_of (Source source) = Source (address_of source)
    what_of (Rpt source) = Rpt (address_of source)

    what_back : (what : What (List ℕ)) → what_seen bytes_of (what_of what) ≡ what
    unfolding what_of
    what_back Star = refl
    what_back (Source source) = ap (λ a. Source a) (back source)
    what_back (Rpt source) = ap (λ a. Rpt a) (back source)

    abbrev event_from : Event → EventOf A
    event_from event = record { joins = event.joins; group = address_of event.group; what = what_of event.what }

    event_back : (event : Event) → event_seen bytes_of (event_from event) ≡ event
    event_back event = λ i. record { joins = event.joins; group = back event.group i; what = what_back event.what i }

    pub keep_of : (xs ys : List (EventOf A)) → IsStableBy (λ (x y : EventOf A). is_lt (key_cmp (mark_key x) (mark_key y))) xs ys → KeepTheirOrder (map (event_seen bytes_of) xs) (map (event_seen bytes_of) ys)
    keep_of xs ys stable mark =
        subst (λ m. filter (same_mark m) (map (event_seen bytes_of) ys) ≡ filter (same_mark m) (map (event_seen bytes_of) xs)) (event_back mark)
        (kept_mapped (event_seen bytes_of) (same_mark seen) ys
        ∙ ap (map (event_seen bytes_of)) (sym (tied ys) ∙ stable (event_from mark) ∙ tied xs)
        ∙ sym (kept_mapped (event_seen bytes_of) (same_mark seen) xs))
      where
        seen : Event
        seen = event_seen bytes_of (event_from mark)

        tied : (zs : List (EventOf A)) → filter (ties (λ (x y : EventOf A). is_lt (key_cmp (mark_key x) (mark_key y))) (event_from mark)) zs ≡ filter (λ z. same_mark seen (event_seen bytes_of z)) zs
        tied zs = λ i. filter (λ z. tie (mark_key (event_from mark)) (mark_key z) i) zs
