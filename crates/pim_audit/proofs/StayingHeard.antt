-- What a message leaves of a machine that it doesn't touch.
use Rattle.pim_audit.proofs.Words.{◌≡◌, ◌∙◌, ◌==◌, ℕ, Bool, true, false, ◌&&◌, not, cond, List, [], ◌∷◌, ◌++◌, Option, None}
use Rattle.pim_audit.proofs.Words.{Some, refl, sym, ap, ap₂, subst, false≢true, AllByRecursion, flat_map, Event, Record}
use Rattle.pim_audit.proofs.Words.{Downstream, is_eq, is_some, what_cmp}
use Rattle.std.proofs.lemmas.Bool.{and_parts, eqb-true}
use Rattle.std.proofs.lemmas.Option.{none-some, same_Some}
use Rattle.std.specs.Cmp.Lexicographic.{same_text}
use Rattle.pim_addr.specs.declared.family.AddressFamily.{AddressFamily}
use Rattle.pim_jp.specs.declared.entry.Entry.{Entry}
use Rattle.pim_jp.specs.declared.entry.Entry.TheVariants as entry
use Rattle.pim_jp.specs.Message.{GroupSet, Message}
use Rattle.pim_down.specs.declared.machines.key.What.{What}
use Rattle.pim_down.specs.declared.machines.key.What.TheVariants.{Star, Source, Rpt}
use Rattle.pim_down.specs.declared.machines.key.Key.{Key}
use Rattle.pim_down.specs.declared.machines.machine.State.{State}
use Rattle.pim_down.specs.declared.machines.machine.State.TheVariants.{Join, PrunePending, Prune, PruneTmp, PrunePendingTmp}
use Rattle.pim_down.specs.declared.machines.machine.Machine.{Machine}
use Rattle.pim_down.specs.declared.machines.event.Timing.{Timing}
use Rattle.pim_down.specs.Key.{same_key}
use Rattle.pim_down.specs.Records.{machine_at, state_of, state_of_machine}
use Rattle.pim_down.specs.Tables.{Start, end_in, join_in, on_end, on_join, on_prune, on_star_join}
use Rattle.pim_down.specs.Hearing.{at_end, effect, effects, entry_events, event, events_of, is_known, is_rpt, is_rpt_on}
use Rattle.pim_down.specs.Hearing.{is_rpt_of, is_star, is_star_join, key_of, list_events, on_own, set_events, start_of}
use Rattle.pim_down.specs.Heard.{heard}
use Rattle.pim_down.specs.Laws.{HearingActsAtEachKey}
use Rattle.pim_down.specs.Sound.{IsSettled, IsSound, is_temporary}
use Rattle.pim_form.specs.NormalForm.{same_address}
use Rattle.pim_form.specs.Wants.{state_on}
use Rattle.pim_audit.specs.Touched.{TouchedMachines, is_touched, is_left_in, is_changed_by, is_changed_by_star, TouchesEntry, TouchesEntries}
use Rattle.pim_audit.specs.Touched.{TouchesSet, Touches, SameStates}
use Rattle.pim_audit.proofs.HeldMachines.{one_key, what_itself}
use Rattle.pim_audit.proofs.OneMachine.{untouched_if}

-- ---- End of Message

ends_stay : (state : State) (held : Machine) → is_temporary state ≡ false → end_in state held ≡ Some held
ends_stay Join held is = refl
ends_stay PrunePending held is = refl
ends_stay Prune held is = refl
ends_stay PruneTmp held is = absurd (false≢true (sym is))
ends_stay PrunePendingTmp held is = absurd (false≢true (sym is))

-- no machine that is held has a temporary state
lasts : (key : Key (List ℕ)) (records : List (Record (List ℕ))) → IsSettled records → (state : State)
    → state_of key records ≡ Some state → is_temporary state ≡ false
unfolding IsSettled machine_at
lasts key [] settled state is = absurd (none-some state is)
lasts key (held ∷ records) settled state is =
    elim (same_key key held.key) as (λ b. state_of_machine (cond b (Some held.machine) (machine_at key records)) ≡ Some state
    → is_temporary state ≡ false) [
      | true ↦ λ found. subst (λ s. is_temporary s ≡ false) (same_Some held.machine.state state found) settled.0
      | false ↦ λ found. lasts key records settled.1 state found
    ] is

-- where no state is temporary, nothing ends
end_stays : (port : ℕ) (key : Key (List ℕ)) (held : Option Machine)
    → ((state : State) → state_of_machine held ≡ Some state → is_temporary state ≡ false) → at_end port key held ≡ held
unfolding on_end
end_stays port key None lasting =
    elim (is_rpt_on port key) as (λ b. cond b (on_end None) None ≡ None) [ true ↦ refl | false ↦ refl ]
end_stays port key (Some held) lasting =
    elim (is_rpt_on port key) as (λ b. cond b (on_end (Some held)) (Some held) ≡ Some held) [
      | true ↦ ends_stay held.state held (lasting held.state refl)
      | false ↦ refl
    ]

-- ---- one event

-- The event may change the state of this machine of its group.
abbrev event_changes : ℕ → Downstream → Bool → List ℕ → What (List ℕ) → What (List ℕ) → Bool
event_changes port state joins of Star what = is_changed_by_star port state joins of what
event_changes port state joins of (Source source) what =
    not (is_left_in joins (state_on state.records port of (Source source))) && is_eq (what_cmp (Source source) what)
event_changes port state joins of (Rpt source) what = is_eq (what_cmp (Rpt source) what)

-- a Join(*,G) leaves Join, and a Prune(*,G) leaves NoInfo
star_stays : (joins : Bool) (start : Start) (held : Option Machine) → is_left_in joins (state_of_machine held) ≡ true
    → state_of_machine (on_own joins Star start held) ≡ state_of_machine held
unfolding on_join on_prune
star_stays true start None left = absurd (false≢true left)
star_stays true start (Some held) left = by held.state left
  where
    by : (state : State) → is_left_in true (Some state) ≡ true → state_of_machine (join_in state start held) ≡ Some state
    by Join e = refl
    by PrunePending e = absurd (false≢true e)
    by Prune e = absurd (false≢true e)
    by PruneTmp e = absurd (false≢true e)
    by PrunePendingTmp e = absurd (false≢true e)
star_stays false start None left = refl
star_stays false start (Some held) left = absurd (false≢true (sym (never held.state) ∙ left))
  where
    never : (state : State) → is_left_in false (Some state) ≡ false
    never Join = refl
    never PrunePending = refl
    never Prune = refl
    never PruneTmp = refl
    never PrunePendingTmp = refl

is_not : (b : Bool) → not b ≡ false → b ≡ true
is_not true e = refl
is_not false e = absurd (false≢true (sym e))

left_if : (left same : Bool) → (not left && same) ≡ false → same ≡ true → left ≡ true
left_if true same e is = refl
left_if false same e is = absurd (false≢true (sym e ∙ is))

-- (S,G) has the table of (*,G)
as_star : (joins : Bool) (source : List ℕ) (start : Start) (held : Option Machine)
    → on_own joins (Source source) start held ≡ on_own joins Star start held
as_star true source start held = refl
as_star false source start held = refl

-- what the event does to its own machine
own_stays : (port : ℕ) (state : Downstream) (group : List ℕ) (what : What (List ℕ)) (joins : Bool) (start : Start) (held : Option Machine)
    → event_changes port state joins group what what ≡ false → state_of_machine held ≡ state_on state.records port group what
    → state_of_machine (on_own joins what start held) ≡ state_of_machine held
own_stays port state group Star joins start held spared was =
    star_stays joins start held (ap (is_left_in joins) was ∙ is_not (is_left_in joins (state_on state.records port group Star)) spared)
own_stays port state group (Source source) joins start held spared was =
    ap state_of_machine (as_star joins source start held)
    ∙ star_stays joins start held (ap (is_left_in joins) was
    ∙ left_if (is_left_in joins (state_on state.records port group (Source source))) (is_eq (what_cmp (Source source) (Source source)))
    spared (ap is_eq (what_itself (Source source))))
own_stays port state group (Rpt source) joins start held spared was = absurd (false≢true (sym spared ∙ ap is_eq (what_itself (Rpt source))))

none_is : (held : Option Machine) → is_some (state_of_machine held) ≡ false → state_of_machine (on_star_join held) ≡ state_of_machine held
unfolding on_star_join
none_is None none = refl
none_is (Some held) none = absurd (false≢true (sym none))

-- what a Join(*,G) does to an (S,G,rpt)
rpts_stay : (port : ℕ) (state : Downstream) (group : List ℕ) (joins : Bool) (named what : What (List ℕ)) (held : Option Machine)
    → event_changes port state joins group named what ≡ false → state_of_machine held ≡ state_on state.records port group what
    → (joins && is_star named) ≡ true → is_rpt what ≡ true → state_of_machine (on_star_join held) ≡ state_of_machine held
rpts_stay port state group true Star (Rpt source) held spared was star rpt = none_is held (ap is_some was ∙ spared)
rpts_stay port state group true Star Star held spared was star rpt = absurd (false≢true rpt)
rpts_stay port state group true Star (Source source) held spared was star rpt = absurd (false≢true rpt)
rpts_stay port state group true (Source named) what held spared was star rpt = absurd (false≢true star)
rpts_stay port state group true (Rpt named) what held spared was star rpt = absurd (false≢true star)
rpts_stay port state group false named what held spared was star rpt = absurd (false≢true star)

effect_by : (own star rpt : Bool) (mine other held : Option Machine)
    → (own ≡ true → state_of_machine mine ≡ state_of_machine held)
    → (star ≡ true → rpt ≡ true → state_of_machine other ≡ state_of_machine held)
    → state_of_machine (cond own mine (cond star (cond rpt other held) held)) ≡ state_of_machine held
effect_by true star rpt mine other held here there = here refl
effect_by false false rpt mine other held here there = refl
effect_by false true false mine other held here there = refl
effect_by false true true mine other held here there = there refl refl

module _ (port : ℕ) (state : Downstream) (on : ℕ) (group : List ℕ) (what : What (List ℕ)) where
  abbrev key : Key (List ℕ)
  key = record { port = on; group = group; what = what }

  -- If the event is of the group, it doesn't change the machine.
  abbrev Spares : Event → Type 0
  Spares e = e.group ≡ group → event_changes port state e.joins e.group e.what what ≡ false

  -- The machine has the state that it had before the message.
  abbrev IsAsBefore : Option Machine → Type 0
  IsAsBefore held = state_of_machine held ≡ state_of key state.records

  module _ (start : Start) where
    effect_stays : (e : Event) (held : Option Machine) → Spares e → IsAsBefore held
        → state_of_machine (effect port start e key held) ≡ state_of_machine held
    effect_stays e held spares was =
        effect_by (same_key (key_of port e) key) (is_star_join e) (is_rpt_of port e.group key) (on_own e.joins e.what start held)
        (on_star_join held) held
        (λ same.
        let one = one_key (key_of port e) key same in
        let groups : e.group ≡ group = ap (λ (k : Key (List ℕ)). k.group) one in
        let whats : e.what ≡ what = ap (λ (k : Key (List ℕ)). k.what) one in
        subst (λ (w : What (List ℕ)). state_of_machine (on_own e.joins w start held) ≡ state_of_machine held) (sym whats)
        (own_stays port state group what e.joins start held
        (ap₂ (λ (g : List ℕ) (w : What (List ℕ)). event_changes port state e.joins g w what) (sym groups) (sym whats) ∙ spares groups)
        (was ∙ ap (λ (k : Key (List ℕ)). state_on state.records k.port group what) (sym one))))
        (λ star rpt.
        let parts = and_parts (is_rpt_on port key) (same_address group e.group) rpt in
        let ports = and_parts (on == port) (is_rpt what) parts.0 in
        let groups = same_text group e.group (sym parts.1) in
        rpts_stay port state group e.joins e.what what held
        (ap (λ (g : List ℕ). event_changes port state e.joins g e.what what) groups ∙ spares (sym groups))
        (was ∙ ap (λ p. state_on state.records p group what) (eqb-true on port ports.0)) star ports.1)

    effects_stay : (events : List Event) (held : Option Machine) → AllByRecursion Spares events → IsAsBefore held
        → IsAsBefore (effects port start events key held)
    unfolding effects
    effects_stay [] held spare was = was
    effects_stay (e ∷ events) held spare was =
        effects_stay events (effect port start e key held) spare.1 (effect_stays e held spare.0 was ∙ was)

  -- ---- the events of a message

  both_spare : (events others : List Event) → AllByRecursion Spares events → AllByRecursion Spares others
      → AllByRecursion Spares (events ++ others)
  both_spare [] others spare more = more
  both_spare (e ∷ events) others spare more = (spare.0, both_spare events others spare.1 more)

  module _ (known : List ℕ → Option (List ℕ)) (touched : TouchedMachines) (apart : is_touched group what touched ≡ false) where
    spares_one : (joins : Bool) (of : List ℕ) (this : Entry (List ℕ)) → TouchesEntry port state joins of touched this → of ≡ group
        → is_changed_by port state joins of this what ≡ false
    spares_one joins of this touches same =
        untouched_if (is_changed_by port state joins of this what) of what touched (touches what)
        (ap (λ (g : List ℕ). is_touched g what touched) same ∙ apart)

    spares_entry : (joins : Bool) (of : List ℕ) (this : Entry (List ℕ)) → TouchesEntry port state joins of touched this
        → AllByRecursion Spares (entry_events known joins of this)
    spares_entry true of (entry.Star rp) touches = star (is_known (known of) rp)
      where
        star : (b : Bool) → AllByRecursion Spares (cond (not b) [] (event true of Star))
        star true = (spares_one true of (entry.Star rp) touches, tt)
        star false = tt
    spares_entry false of (entry.Star rp) touches = (spares_one false of (entry.Star rp) touches, tt)
    spares_entry joins of (entry.Source source) touches = (spares_one joins of (entry.Source source) touches, tt)
    spares_entry joins of (entry.Rpt source) touches = (spares_one joins of (entry.Rpt source) touches, tt)

    spares_list : (joins : Bool) (of : List ℕ) (entries : List (Entry (List ℕ))) → TouchesEntries port state joins of touched entries
        → AllByRecursion Spares (list_events known joins of entries)
    spares_list joins of [] touches = tt
    spares_list joins of (this ∷ entries) touches =
        both_spare (entry_events known joins of this) (list_events known joins of entries) (spares_entry joins of this touches.0)
        (spares_list joins of entries touches.1)

    spares_sets : (sets : List GroupSet) → AllByRecursion (TouchesSet port state touched) sets
        → AllByRecursion Spares (flat_map (set_events known) sets)
    spares_sets [] touches = tt
    spares_sets (set ∷ sets) touches =
        both_spare (set_events known set) (flat_map (set_events known) sets)
        (both_spare (list_events known true set.group set.joined) (list_events known false set.group set.pruned)
        (spares_list true set.group set.joined touches.0.0) (spares_list false set.group set.pruned touches.0.1))
        (spares_sets sets touches.1)

-- ---- the message

-- what a port hears leaves each machine that isn't touched
pub heard_stays : HearingActsAtEachKey → (family : AddressFamily) (port : ℕ) (message : Message)
    (known : List ℕ → Option (List ℕ)) (timing : Timing) (state : Downstream) (touched : TouchedMachines) → IsSound family state
    → Touches port message state touched → (group : List ℕ) (what : What (List ℕ)) → is_touched group what touched ≡ false
    → SameStates group what state (heard port message known timing state)
heard_stays law family port message known timing state touched sound touches group what apart = record {
  ports = refl;
  states = λ on.
      let at : Key (List ℕ) = record { port = on; group = group; what = what } in
      let start : Start = start_of message.holdtime timing in
      let after : Option Machine = effects port start (events_of known message) at (machine_at at state.records) in
      let stays : state_of_machine after ≡ state_of at state.records =
      effects_stay port state on group what start (events_of known message) (machine_at at state.records)
      (spares_sets port state on group what known touched apart message.sets touches) refl in
      ap state_of_machine (law port start (events_of known message) state.records sound.ascending at
      ∙ end_stays port at after (λ s is. lasts at state.records sound.settled s (sym stays ∙ is)))
      ∙ stays;
}
