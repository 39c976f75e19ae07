-- The events of a message that asks for traffic tell units.
use Rattle.pim_fresh.proofs.Words.{◌≡◌, ℕ, Bool, true, false, cond, ◌||◌, not, List, [], ◌∷◌, ◌++◌, Option, Some, None, map, refl}
use Rattle.pim_fresh.proofs.Words.{sym, ap, subst, ◌∙◌, nat_eq, AllByRecursion, IsDistinct, flat_map, nat_eq_equiv, pointwise}
use Rattle.pim_fresh.proofs.Words.{lists_equiv, false≢true, flat_map-map, list_any-append, What, Star, Source, Rpt, Key}
use Rattle.pim_fresh.proofs.Words.{source_of, same_key, Event, key_of, is_rpt, is_star, creates_by, is_known, entry_events}
use Rattle.pim_fresh.proofs.Words.{list_events, set_events, KeysAreDistinct, has_unit_of, star_at, AreUnits, DemandingHasUnits}
use Rattle.std.proofs.lemmas.Grind.{flat_map-append}
use Rattle.std.proofs.lemmas.List.Concat.{flat_map_single}
use Rattle.pim_jp.specs.declared.entry.Entry.{Entry}
use Rattle.pim_jp.specs.declared.entry.Entry.TheVariants as entry
use Rattle.pim_jp.specs.Message.{GroupSet}
use Rattle.pim_fresh.specs.Demanding.{AreDifferent, star_entries, excepted, IsKnownRp, Demands}
use Rattle.pim_fresh.proofs.Named.{or_true, same_keys, same_itself}

none_of : (a b : Bool) → a ≡ false → b ≡ false → (a || b) ≡ false
none_of true b p q = p
none_of false b p q = q

or_none : (a : Bool) → (a || false) ≡ a
or_none true = refl
or_none false = refl

moved : (a b c : Bool) → ((a || b) || c) ≡ (b || (a || c))
moved true b c = sym (or_true b)
moved false b c = refl

-- ---- units in two parts

-- These events name what those do and these do.
abbrev NamesBoth : ℕ → List Event → List Event → List Event → Type 0
NamesBoth port both before events = (key : Key (List ℕ)) → has_unit_of port key both ≡ (has_unit_of port key before || has_unit_of port key events)

units_append : (port : ℕ) (before events more : List Event) → AreUnits port before events → ((both : List Event) → NamesBoth port both before events → AreUnits port both more) → AreUnits port before (events ++ more)
unfolding AreUnits
units_append port before [] more units rest = rest before (λ key. sym (or_none (has_unit_of port key before)))
units_append port before (event ∷ events) more units rest = (
  units.0,
  units.1,
  units.2,
  units_append port (event ∷ before) events more units.3
      (λ both names. rest both (λ key. names key ∙ moved (same_key (key_of port event) key) (has_unit_of port key before) (has_unit_of port key events))),
)

-- ---- the events of a set

pub event_at : Bool → List ℕ → What (List ℕ) → Event
event_at joins group what = record { joins = joins; group = group; what = what }

star_events : List ℕ → Option (List (List ℕ)) → List Event
star_events group None = []
star_events group (Some exceptions) = event_at true group Star ∷ []

source_event : List ℕ → List ℕ → Event
source_event group source = event_at true group (Source source)

exception_event : List ℕ → List ℕ → Event
exception_event group source = event_at false group (Rpt source)

asked_events : List ℕ → Option (List (List ℕ)) → List (List ℕ) → List Event
asked_events group star sources = (star_events group star ++ map (source_event group) sources) ++ map (exception_event group) (excepted star)

module _ (known : List ℕ → Option (List ℕ)) (group : List ℕ) where
  star_told : (rp : List ℕ) (star : Option (List (List ℕ))) → IsKnownRp (known group) rp star → list_events known true group (star_entries rp star) ≡ star_events group star
  unfolding star_events event_at
  star_told rp None is = refl
  star_told rp (Some exceptions) is =
      let same : is_known (known group) rp ≡ true = ap (λ (o : Option (List ℕ)). is_known o rp) is ∙ (lists_equiv nat_eq_equiv).refl rp in
      ap (λ b. cond (not b) [] (event_at true group Star ∷ []) ++ []) same

  sources_told : (sources : List (List ℕ)) → list_events known true group (map (λ source. entry.Source source) sources) ≡ map (source_event group) sources
  unfolding source_event event_at
  sources_told sources =
      flat_map-map (entry_events known true group) (λ source. entry.Source source) sources
      ∙ flat_map_single (source_event group) sources

  exceptions_told : (exceptions : List (List ℕ)) → list_events known false group (map (λ source. entry.Rpt source) exceptions) ≡ map (exception_event group) exceptions
  unfolding exception_event event_at
  exceptions_told exceptions =
      flat_map-map (entry_events known false group) (λ source. entry.Rpt source) exceptions
      ∙ flat_map_single (exception_event group) exceptions

set_told : (known : List ℕ → Option (List ℕ)) (set : GroupSet) (asks : Demands known set) → set_events known set ≡ asked_events set.group asks.star asks.sources
unfolding asked_events
set_told known set asks =
    ap (λ (entries : List (Entry (List ℕ))). list_events known true set.group entries ++ list_events known false set.group set.pruned) asks.joined
    ∙ ap (λ (entries : List (Entry (List ℕ))). list_events known true set.group (star_entries asks.rp asks.star ++ map (λ source. entry.Source source) asks.sources) ++ list_events known false set.group entries) asks.pruned
    ∙ ap (λ (events : List Event). events ++ list_events known false set.group (map (λ source. entry.Rpt source) (excepted asks.star)))
    (flat_map-append (entry_events known true set.group) (star_entries asks.rp asks.star) (map (λ source. entry.Source source) asks.sources)
    ∙ ap (λ (events : List Event). events ++ list_events known true set.group (map (λ source. entry.Source source) asks.sources)) (star_told known set.group asks.rp asks.star asks.known_rp)
    ∙ ap (λ (events : List Event). star_events set.group asks.star ++ events) (sources_told known set.group asks.sources))
    ∙ ap (λ (events : List Event). (star_events set.group asks.star ++ map (source_event set.group) asks.sources) ++ events) (exceptions_told known set.group (excepted asks.star))

module _ (keys : KeysAreDistinct) (port : ℕ) where
  -- ---- one machine for each of different addresses

  -- none of these events is at one of those machines
  AreNew : (List ℕ → Event) → List (List ℕ) → List Event → Type 0
  AreNew make addresses before = AllByRecursion (λ address. has_unit_of port (key_of port (make address)) before ≡ false) addresses

  module _ (make : List ℕ → Event) (apart : (a b : List ℕ) → key_of port (make a) ≡ key_of port (make b) → a ≡ b) where
    differ : (a b : List ℕ) → pointwise nat_eq a b ≡ false → same_key (key_of port (make a)) (key_of port (make b)) ≡ false
    differ a b e = by (same_key (key_of port (make a)) (key_of port (make b))) refl
      where
        by : (t : Bool) → same_key (key_of port (make a)) (key_of port (make b)) ≡ t → t ≡ false
        by false s = refl
        by true s =
            let same = apart a b (same_keys keys port (key_of port (make a)) (key_of port (make b)) s) in
            absurd (false≢true (sym e ∙ subst (λ (c : List ℕ). pointwise nat_eq a c ≡ true) same ((lists_equiv nat_eq_equiv).refl a)))

    new_later : (address : List ℕ) (addresses : List (List ℕ)) (before : List Event) → AllByRecursion (λ other. pointwise nat_eq address other ≡ false) addresses → AreNew make addresses before → AreNew make addresses (make address ∷ before)
    unfolding AreNew
    new_later address [] before different new = tt
    new_later address (other ∷ addresses) before different new = (
      none_of (same_key (key_of port (make address)) (key_of port (make other))) (has_unit_of port (key_of port (make other)) before) (differ address other different.0) new.0,
      new_later address addresses before different.1 new.1,
    )

    each_unit : (before : List Event) (addresses : List (List ℕ)) → ((address : List ℕ) → creates_by (make address).joins (make address).what ≡ true) → AreDifferent addresses → AreNew make addresses before →
        ((address : List ℕ) (more : List Event) → ((key : Key (List ℕ)) → has_unit_of port key before ≡ true → has_unit_of port key more ≡ true) → is_rpt (make address).what ≡ true → has_unit_of port (star_at port (make address).group) more ≡ true) →
        AreUnits port before (map make addresses)
    unfolding AreUnits AreNew IsDistinct
    each_unit before [] creating different new star = tt
    each_unit before (address ∷ addresses) creating different new star = (
      creating address,
      new.0,
      star address before (λ key has_unit. has_unit),
      each_unit (make address ∷ before) addresses creating different.1 (new_later address addresses before different.0 new.1)
          (λ other more names. star other more (λ key has_unit. names key (ap (λ b. same_key (key_of port (make address)) key || b) has_unit ∙ or_true (same_key (key_of port (make address)) key)))),
    )

  -- ---- a set

  apart_by : (test : What (List ℕ) → Bool) (a b : Key (List ℕ)) → test a.what ≡ true → test b.what ≡ false → same_key a b ≡ false
  apart_by test a b p q = by (same_key a b) refl
    where
      by : (t : Bool) → same_key a b ≡ t → t ≡ false
      by false s = refl
      by true s = absurd (false≢true (sym q ∙ ap (λ (k : Key (List ℕ)). test k.what) (sym (same_keys keys port a b s)) ∙ p))

  no_star : (key : Key (List ℕ)) (group : List ℕ) (star : Option (List (List ℕ))) → is_star key.what ≡ false → has_unit_of port key (star_events group star) ≡ false
  unfolding star_events event_at
  no_star key group None e = refl
  no_star key group (Some exceptions) e = none_of (same_key (star_at port group) key) false (apart_by is_star (star_at port group) key refl e) refl

  no_source : (key : Key (List ℕ)) (group : List ℕ) (sources : List (List ℕ)) → is_rpt key.what ≡ true → has_unit_of port key (map (source_event group) sources) ≡ false
  unfolding source_event event_at
  no_source key group [] r = refl
  no_source key group (source ∷ sources) r =
      none_of (same_key (key_of port (source_event group source)) key) (has_unit_of port key (map (source_event group) sources))
      (apart_by (λ what. not (is_rpt what)) (key_of port (source_event group source)) key refl (ap not r))
      (no_source key group sources r)

  -- no machine of the group is named
  pub IsFreshGroup : List ℕ → List Event → Type 0
  IsFreshGroup group before = (key : Key (List ℕ)) → key.group ≡ group → has_unit_of port key before ≡ false

  source_apart : (group a b : List ℕ) → key_of port (source_event group a) ≡ key_of port (source_event group b) → a ≡ b
  unfolding source_event event_at
  source_apart group a b e = ap (λ (k : Key (List ℕ)). source_of k.what) e

  exception_apart : (group a b : List ℕ) → key_of port (exception_event group a) ≡ key_of port (exception_event group b) → a ≡ b
  unfolding exception_event event_at
  exception_apart group a b e = ap (λ (k : Key (List ℕ)). source_of k.what) e

  new_sources : (group : List ℕ) (star : Option (List (List ℕ))) (sources : List (List ℕ)) (before both : List Event) → IsFreshGroup group before → NamesBoth port both before (star_events group star) → AreNew (source_event group) sources both
  unfolding AreNew IsFreshGroup source_event event_at
  new_sources group star [] before both fresh names = tt
  new_sources group star (source ∷ sources) before both fresh names = (
    names (key_of port (source_event group source)) ∙ none_of (has_unit_of port (key_of port (source_event group source)) before) (has_unit_of port (key_of port (source_event group source)) (star_events group star)) (fresh (key_of port (source_event group source)) refl) (no_star (key_of port (source_event group source)) group star refl),
    new_sources group star sources before both fresh names,
  )

  new_exceptions : (group : List ℕ) (star : Option (List (List ℕ))) (sources exceptions : List (List ℕ)) (before both : List Event) → IsFreshGroup group before → NamesBoth port both before (star_events group star ++ map (source_event group) sources) → AreNew (exception_event group) exceptions both
  unfolding AreNew IsFreshGroup exception_event event_at
  new_exceptions group star sources [] before both fresh names = tt
  new_exceptions group star sources (exception ∷ exceptions) before both fresh names =
      let key : Key (List ℕ) = key_of port (exception_event group exception) in (
        names key
            ∙ none_of (has_unit_of port key before) (has_unit_of port key (star_events group star ++ map (source_event group) sources))
            (fresh key refl)
            (list_any-append (λ (event : Event). same_key (key_of port event) key) (star_events group star) (map (source_event group) sources)
            ∙ none_of (has_unit_of port key (star_events group star)) (has_unit_of port key (map (source_event group) sources)) (no_star key group star refl) (no_source key group sources refl)),
        new_exceptions group star sources exceptions before both fresh names,
      )

  star_unit : (group : List ℕ) (star : Option (List (List ℕ))) (before : List Event) → IsFreshGroup group before → AreUnits port before (star_events group star)
  unfolding AreUnits IsFreshGroup star_events event_at
  star_unit group None before fresh = tt
  star_unit group (Some exceptions) before fresh = (refl, fresh (star_at port group) refl, λ r. absurd (false≢true r), tt)

  source_units : (group : List ℕ) (star : Option (List (List ℕ))) (sources : List (List ℕ)) (before both : List Event) → AreDifferent sources → IsFreshGroup group before → NamesBoth port both before (star_events group star) → AreUnits port both (map (source_event group) sources)
  unfolding source_event event_at
  source_units group star sources before both different fresh names =
      each_unit (source_event group) (source_apart group) both sources (λ address. refl) different (new_sources group star sources before both fresh names) (λ address more later r. absurd (false≢true r))

  exception_units : (group : List ℕ) (star : Option (List (List ℕ))) (sources : List (List ℕ)) (before both : List Event) → AreDifferent (excepted star) → IsFreshGroup group before → NamesBoth port both before (star_events group star ++ map (source_event group) sources) → AreUnits port both (map (exception_event group) (excepted star))
  unfolding AreUnits exception_event event_at star_events
  exception_units group None sources before both different fresh names = tt
  exception_units group (Some exceptions) sources before both different fresh names =
      each_unit (exception_event group) (exception_apart group) both exceptions (λ address. refl) different (new_exceptions group (Some exceptions) sources exceptions before both fresh names)
      (λ address more later r. later (star_at port group)
      (names (star_at port group)
      ∙ ap (λ b. has_unit_of port (star_at port group) before || (b || has_unit_of port (star_at port group) (map (source_event group) sources))) (same_itself keys port (star_at port group))
      ∙ or_true (has_unit_of port (star_at port group) before)))

  set_units : (group : List ℕ) (star : Option (List (List ℕ))) (sources : List (List ℕ)) (before : List Event) → AreDifferent sources → AreDifferent (excepted star) → IsFreshGroup group before → AreUnits port before (asked_events group star sources)
  unfolding asked_events
  set_units group star sources before different_sources different_exceptions fresh =
      units_append port before (star_events group star ++ map (source_event group) sources) (map (exception_event group) (excepted star))
      (units_append port before (star_events group star) (map (source_event group) sources) (star_unit group star before fresh)
      (λ both names. source_units group star sources before both different_sources fresh names))
      (λ both names. exception_units group star sources before both different_exceptions fresh names)

  -- ---- the sets of a message

  OfGroup : List ℕ → List Event → Type 0
  OfGroup group events = AllByRecursion (λ (event : Event). event.group ≡ group) events

  group_append : (group : List ℕ) (front back : List Event) → OfGroup group front → OfGroup group back → OfGroup group (front ++ back)
  unfolding OfGroup
  group_append group [] back f b = b
  group_append group (event ∷ front) back f b = (f.0, group_append group front back f.1 b)

  group_map : (group : List ℕ) (make : List ℕ → Event) (addresses : List (List ℕ)) → ((address : List ℕ) → (make address).group ≡ group) → OfGroup group (map make addresses)
  unfolding OfGroup
  group_map group make [] is = tt
  group_map group make (address ∷ addresses) is = (is address, group_map group make addresses is)

  group_star : (group : List ℕ) (star : Option (List (List ℕ))) → OfGroup group (star_events group star)
  unfolding OfGroup star_events event_at
  group_star group None = tt
  group_star group (Some exceptions) = (refl, tt)

  group_asked : (group : List ℕ) (star : Option (List (List ℕ))) (sources : List (List ℕ)) → OfGroup group (asked_events group star sources)
  unfolding asked_events source_event exception_event event_at
  group_asked group star sources =
      group_append group (star_events group star ++ map (source_event group) sources) (map (exception_event group) (excepted star))
      (group_append group (star_events group star) (map (source_event group) sources) (group_star group star) (group_map group (source_event group) sources (λ address. refl)))
      (group_map group (exception_event group) (excepted star) (λ address. refl))

  named_group : (group : List ℕ) (key : Key (List ℕ)) (events : List Event) → OfGroup group events → has_unit_of port key events ≡ true → key.group ≡ group
  unfolding OfGroup
  named_group group key [] of has_unit = absurd (false≢true has_unit)
  named_group group key (event ∷ events) of has_unit =
      elim (same_key (key_of port event) key) as (λ b. same_key (key_of port event) key ≡ b → (b || has_unit_of port key events) ≡ true → key.group ≡ group) [
        | true ↦ λ s f. ap (λ (k : Key (List ℕ)). k.group) (sym (same_keys keys port (key_of port event) key s)) ∙ of.0
        | false ↦ λ s f. named_group group key events of.1 f
      ] refl has_unit

  other_group : (group other : List ℕ) (events : List Event) → pointwise nat_eq group other ≡ false → OfGroup group events → IsFreshGroup other events
  unfolding IsFreshGroup
  other_group group other events different of key is = by (has_unit_of port key events) refl
    where
      by : (b : Bool) → has_unit_of port key events ≡ b → b ≡ false
      by false e = refl
      by true e = absurd (false≢true (sym different ∙ subst (λ (g : List ℕ). pointwise nat_eq group g ≡ true) (sym (named_group group key events of e) ∙ is) ((lists_equiv nat_eq_equiv).refl group)))

  pub AreFreshGroups : List GroupSet → List Event → Type 0
  AreFreshGroups sets before = AllByRecursion (λ (set : GroupSet). IsFreshGroup set.group before) sets

  fresh_both : (group : List ℕ) (before events both : List Event) → NamesBoth port both before events → IsFreshGroup group events → IsFreshGroup group before → IsFreshGroup group both
  unfolding IsFreshGroup
  fresh_both group before events both names here there key is = names key ∙ none_of (has_unit_of port key before) (has_unit_of port key events) (there key is) (here key is)

  fresh_later : (group : List ℕ) (sets : List GroupSet) (before events both : List Event) → OfGroup group events → NamesBoth port both before events → AllByRecursion (λ other. pointwise nat_eq group other ≡ false) (map (λ (set : GroupSet). set.group) sets) → AreFreshGroups sets before → AreFreshGroups sets both
  unfolding AreFreshGroups
  fresh_later group [] before events both of names different fresh = tt
  fresh_later group (set ∷ sets) before events both of names different fresh =
      (fresh_both set.group before events both names (other_group group set.group events different.0 of) fresh.0, fresh_later group sets before events both of names different.1 fresh.1)

  fresh_nothing : (sets : List GroupSet) → AreFreshGroups sets []
  unfolding AreFreshGroups IsFreshGroup
  fresh_nothing [] = tt
  fresh_nothing (set ∷ sets) = (λ key is. refl, fresh_nothing sets)

  sets_told : (known : List ℕ → Option (List ℕ)) (sets : List GroupSet) (before : List Event) → AllByRecursion (Demands known) sets → AreDifferent (map (λ (set : GroupSet). set.group) sets) → AreFreshGroups sets before → AreUnits port before (flat_map (set_events known) sets)
  unfolding AreUnits AreFreshGroups IsDistinct
  sets_told known [] before asks different fresh = tt
  sets_told known (set ∷ sets) before asks different fresh =
      subst (λ (events : List Event). AreUnits port before (events ++ flat_map (set_events known) sets)) (sym (set_told known set asks.0))
      (units_append port before (asked_events set.group asks.0.star asks.0.sources) (flat_map (set_events known) sets)
      (set_units set.group asks.0.star asks.0.sources before asks.0.different_sources asks.0.different_exceptions fresh.0)
      (λ both names. sets_told known sets both asks.1 different.1 (fresh_later set.group sets before (asked_events set.group asks.0.star asks.0.sources) both (group_asked set.group asks.0.star asks.0.sources) names different.0 fresh.1)))

pub asking_tells : KeysAreDistinct → DemandingHasUnits
asking_tells keys known port message asks = sets_told keys port known message.sets [] asks.sets asks.different_groups (fresh_nothing keys port message.sets)
