-- Events that stand in a list of their own, one after another.
use Rattle.pim_down.proofs.Words.{◌≡◌, ℕ, suc, ◌+◌, ◌<◌, ◌≤◌, Bool, true, false, List, [], ◌∷◌, ◌++◌, Option, length, map, take, drop, get_or, ltb, refl, sym, ap, subst, ◌∙◌, arith, list_any, Bor, Mut, Called, ComparesAs, Ordering, is_lt, IsStrictWeakOrder, IsStableBy, ltb-true, ltb-false, always_returns_same, ranks_by, append_assoc, append-nil, drop_more, drop_all, length-map, get_or-map, take-map, take_more, drop-append-le, length-take, map-append, GroupSet, Record, Start, Event, list_events, act_all, is_star_join, Key, key_cmp, is_of_rpts_of, ComeFirstBehind, StarsComeFirst, event_seen}
use Rattle.pim_down.specs.declared.machines.event.Event.{Event as EventOf}
use Rattle.pim_down.proofs.Order.{key_total}
use Rattle.pim_down.proofs.Events.{sets_events}

-- ---- of a list of events, those from a place on

module _ {A : Type 0} (bytes_of : A → List ℕ) where
  abbrev pub seen_from : ℕ → List (EventOf A) → List Event
  seen_from i events = map (event_seen bytes_of) (drop i events)

  -- one event, and then the others
  pub event_left : (events : List (EventOf A)) (i : ℕ) (event : EventOf A) → i < length events → event ≡ get_or events i event → seen_from i events ≡ event_seen bytes_of event ∷ seen_from (i + 1) events
  event_left events i event within is =
      ap (map (event_seen bytes_of)) (drop_more events i event within)
      ∙ ap (λ (e : EventOf A). event_seen bytes_of e ∷ seen_from (i + 1) events) (sym is)

  pub no_event_left : (events : List (EventOf A)) (i : ℕ) → length events ≤ i → seen_from i events ≡ []
  no_event_left events i past = ap (map (event_seen bytes_of)) (drop_all i events past)

module _ {A : Type 0} (bytes_of : A → List ℕ) (events : List (EventOf A)) (i : ℕ) where
  -- one event more, from a place before it on
  pub seen_more : (behind : ℕ) (event : EventOf A) → behind ≤ i → i < length events → event ≡ get_or events i event → map (event_seen bytes_of) (drop behind (take (i + 1) events)) ≡ map (event_seen bytes_of) (drop behind (take i events)) ++ event_seen bytes_of event ∷ []
  seen_more behind event le within is =
      let long = length-take i events in
      ap (λ (es : List (EventOf A)). map (event_seen bytes_of) (drop behind es)) (take_more events i event within ∙ ap (λ (e : EventOf A). take i events ++ e ∷ []) (sym is))
      ∙ ap (map (event_seen bytes_of)) (drop-append-le behind (take i events) (event ∷ []) (omega (arith, le, within, long)))
      ∙ map-append (event_seen bytes_of) (drop behind (take i events)) (event ∷ [])

  pub none_seen : map (event_seen bytes_of) (drop i (take i events)) ≡ []
  none_seen = ap (map (event_seen bytes_of)) (drop_all i (take i events) (let long = length-take i events in omega (arith, long)))

pub none_acts : (port : ℕ) (start : Start) (events : List Event) (records : List (Record (List ℕ))) → events ≡ [] → act_all port start events records ≡ records
unfolding act_all
none_acts port start events records none = ap (λ (es : List Event). act_all port start es records) none

-- ---- the lists of a message, one behind the other

pub set_more : (known : List ℕ → Option (List ℕ)) (set : GroupSet) (left rest : List GroupSet) (old joined pruned all : List Event)
    → left ≡ set ∷ rest → joined ≡ old ++ list_events known true set.group set.joined → pruned ≡ joined ++ list_events known false set.group set.pruned
    → old ++ sets_events known left ≡ all → pruned ++ sets_events known rest ≡ all
set_more known set left rest old joined pruned all split j p whole =
    let js = list_events known true set.group set.joined in
    let ps = list_events known false set.group set.pruned in
    let others = sets_events known rest in
    ap (λ (es : List Event). es ++ others) (p ∙ ap (λ (es : List Event). es ++ ps) j)
    ∙ append_assoc (old ++ js) ps others
    ∙ append_assoc old js (ps ++ others)
    ∙ ap (λ (es : List Event). old ++ es) (sym (append_assoc js ps others))
    ∙ ap (λ (sets : List GroupSet). old ++ sets_events known sets) (sym split)
    ∙ whole

-- ---- each Join(*,G) comes first

-- each Join(*,G) before a place comes first
abbrev pub AreFirstTo : List Event → ℕ → Type 0
AreFirstTo events to = (i : ℕ) (d : Event) → i < to → is_star_join (get_or events i d) ≡ true → list_any (is_of_rpts_of (get_or events i d).group) (take i events) ≡ false

come_first_behind : (before events : List Event) → ((i : ℕ) (d : Event) → i < length events → is_star_join (get_or events i d) ≡ true → list_any (is_of_rpts_of (get_or events i d).group) (before ++ take i events) ≡ false) → ComeFirstBehind before events
unfolding ComeFirstBehind
come_first_behind before [] each = tt
come_first_behind before (event ∷ events) each = (
  λ star. subst (λ (es : List Event). list_any (is_of_rpts_of event.group) es ≡ false) (append-nil before) (each 0 event (omega arith) star),
  come_first_behind (before ++ event ∷ []) events (λ i d within star. subst (λ (es : List Event). list_any (is_of_rpts_of (get_or events i d).group) es ≡ false) (sym (append_assoc before (event ∷ []) (take i events))) (each (suc i) d (omega (arith, within)) star)),
)

module _ {A : Type 0} (bytes_of : A → List ℕ) (events : List (EventOf A)) where
  pub first_more : (k : ℕ) (event : EventOf A) → k < length events → event ≡ get_or events k event → AreFirstTo (map (event_seen bytes_of) events) k
      → (is_star_join (event_seen bytes_of event) ≡ true → list_any (is_of_rpts_of (bytes_of event.group)) (map (event_seen bytes_of) (take k events)) ≡ false)
      → AreFirstTo (map (event_seen bytes_of) events) (k + 1)
  first_more k event within is first here i d lt star = by (ltb i k) refl
    where
      seen : List Event
      seen = map (event_seen bytes_of) events

      by : (t : Bool) → ltb i k ≡ t → list_any (is_of_rpts_of (get_or seen i d).group) (take i seen) ≡ false
      by true e = first i d (ltb-true i k e) star
      by false e =
          let same : k ≡ i = omega (arith, ltb-false i k e, lt) in
          let at : get_or seen k d ≡ event_seen bytes_of event = get_or-map (event_seen bytes_of) events k event d within ∙ ap (event_seen bytes_of) (sym is) in
          let this : list_any (is_of_rpts_of (bytes_of event.group)) (take k seen) ≡ false = ap (list_any (is_of_rpts_of (bytes_of event.group))) (take-map (event_seen bytes_of) k events) ∙ here (sym (ap is_star_join at) ∙ ap (λ n. is_star_join (get_or seen n d)) same ∙ star) in
          subst (λ n. list_any (is_of_rpts_of (get_or seen n d).group) (take n seen) ≡ false) same (ap (λ (e : Event). list_any (is_of_rpts_of e.group) (take k seen)) at ∙ this)

  pub all_first : (k : ℕ) → length events ≤ k → AreFirstTo (map (event_seen bytes_of) events) k → StarsComeFirst (map (event_seen bytes_of) events)
  all_first k past first =
      let long : length (map (event_seen bytes_of) events) ≡ length events = simp length-map in
      come_first_behind [] (map (event_seen bytes_of) events) (λ i d within. first i d (omega (arith, within, long, past)))

-- ---- a sort by a closure that compares keys

pub stays_by : {A F : Type 0} (key : A → Key (List ℕ)) {g : Mut F (Bor A × (Bor A × Unit {0})) Ordering} {f : F} (xs ys : List A)
    → ((lt : A → A → Bool) → IsStrictWeakOrder lt → ComparesAs g lt f → IsStableBy lt xs ys)
    → ((a : Bor A × (Bor A × Unit {0})) (r : Ordering) (f' : F) → Called g f a r f' → (r ≡ key_cmp (key a.0.now) (key a.1.0.now)) × (f' ≡ f))
    → IsStableBy (λ (x y : A). is_lt (key_cmp (key x) (key y))) xs ys
stays_by key {g = g} {f = f} xs ys stable h =
    stable (λ x y. is_lt (key_cmp (key x) (key y)))
    (ranks_by key_total key)
    (always_returns_same g (λ a r. is_lt r ≡ is_lt (key_cmp (key a.0.now) (key a.1.0.now))) f (λ a r f' k. (ap is_lt (h a r f' k).0, (h a r f' k).1)))
