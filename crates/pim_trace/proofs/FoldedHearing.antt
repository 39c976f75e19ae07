-- The events of a packet lead each machine from what is known of it before to what is known after.
use Rattle.std.proofs.Common.{◌≡◌, ◌∙◌, ℕ, ◌+◌, ◌==◌, nat_eq, Bool, true, false, not, ◌&&◌, ◌||◌, List, [], ◌∷◌}
use Rattle.pim_trace.proofs.Words.{map, Option, None, Some, option_map, unwrap_or, if◌then◌else◌, eqb-true, eq-eqb, refl, sym, ap}
use Rattle.pim_trace.proofs.Words.{subst, arith, AllByRecursion, IsStrictlySortedBy, option_eq, Less, is_eq, false≢true, ne_eqb}
use Rattle.pim_trace.proofs.Words.{Parameters, GroupSet, Key, Machine, Pending, Record, State, Timer, PrunePending, Expiry, Event}
use Rattle.pim_trace.proofs.Words.{is_known, hearing, key_cmp, same_key, KeysAreDistinct, HearingKeepsTheOrder}
use Rattle.pim_trace.proofs.Words.{HearingLeavesOtherPorts, IsAscending, machine_at, state_of_machine, Start, Cause}
use Rattle.pim_trace.proofs.Words.{TransitionEvent, Occurrence, join_ignored, own_restart, Transition, IsTransition}
use Rattle.pim_trace.proofs.Words.{has_transition, keys_of_transitions, AreTransitions, Causes, end_of, sets, packet_of}
use Rattle.pim_trace.proofs.Words.{ends_pending, names, states_shown, event_on, ignored_entry, ignored_in, all_ignored, change_by}
use Rattle.pim_trace.proofs.Words.{change_of, changes_of, restarts, is_pending, Ledger, no_cause, both_by, same_expiry}
use Rattle.pim_trace.proofs.Words.{pending_left, same_pending, moved_by, caused, causes_of, with_change, with_changes, cause_of}
use Rattle.pim_trace.proofs.Words.{RecordPlace}
use Rattle.pim_jp.specs.declared.entry.Entry.{Entry}
use Rattle.pim_jp.specs.declared.entry.Entry.TheVariants as entry
use Rattle.pim_down.specs.declared.machines.machine.State.TheVariants as state
use Rattle.pim_trace.proofs.Firings.{turned}
use Rattle.pim_trace.proofs.Folding.{Known, known_of, state_in, pending_frame, changed_known, tells_change, LeadsBy, Leads}
use Rattle.pim_trace.proofs.Folding.{leads_nowhere, leads_past, leads_first, AllQuiet, quiet_flat, known_at, LeadsAll}

-- ---- states are equal, or they aren't

number_in : Option State → ℕ
number_in None = 0
number_in (Some state.Join) = 1
number_in (Some state.PrunePending) = 2
number_in (Some state.Prune) = 3
number_in (Some state.PruneTmp) = 4
number_in (Some state.PrunePendingTmp) = 5

state_by : ℕ → Option State
state_by n =
    if n == 0 then None else (if n == 1 then Some state.Join else (if n == 2 then Some state.PrunePending
    else (if n == 3 then Some state.Prune else (if n == 4 then Some state.PruneTmp else Some state.PrunePendingTmp))))

back : (s : Option State) → state_by (number_in s) ≡ s
unfolding number_in state_by
back None = refl
back (Some state.Join) = refl
back (Some state.PrunePending) = refl
back (Some state.Prune) = refl
back (Some state.PruneTmp) = refl
back (Some state.PrunePendingTmp) = refl

-- what can't differ is equal
abbrev CanNotDiffer : {A : Type 0} → A → A → Type 0
CanNotDiffer {A} a b = (a ≡ b → ⊥) → ⊥

-- a part of what can't differ can't differ
part : {A B : Type 0} (f : A → B) (a b : A) → CanNotDiffer a b → CanNotDiffer (f a) (f b)
part f a b never differ = never (λ same. differ (ap f same))

numbers : (a b : ℕ) → CanNotDiffer a b → a ≡ b
numbers a b never =
    elim (a == b) as (λ t. a == b ≡ t → a ≡ b) [
      | true ↦ λ e. eqb-true a b e
      | false ↦ λ e. absurd (never (λ same. false≢true (sym e ∙ eq-eqb a b same)))
    ] refl

states : (a b : Option State) → CanNotDiffer a b → a ≡ b
states a b never =
    sym (back a) ∙ ap state_by (numbers (number_in a) (number_in b) (part number_in a b never)) ∙ back b

bools : (a b : Bool) → CanNotDiffer a b → a ≡ b
bools true true never = refl
bools false false never = refl
bools true false never = absurd (never (λ e. false≢true (sym e)))
bools false true never = absurd (never (λ e. false≢true e))

options : {A : Type 0} → ((a b : A) → CanNotDiffer a b → a ≡ b) → (a b : Option A) → CanNotDiffer a b → a ≡ b
options equal None None never = refl
options equal None (Some b) never = absurd (never (λ e. cc))
options equal (Some a) None never = absurd (never (λ e. cc))
options equal (Some a) (Some b) never = ap Some (equal a b (part (λ o. unwrap_or o a) (Some a) (Some b) never))

pendings : (a b : Pending) → CanNotDiffer a b → a ≡ b
pendings a b never = λ i. record {
  ends_in = numbers a.ends_in b.ends_in (part (λ (p : Pending). p.ends_in) a b never) i;
  several = bools a.several b.several (part (λ (p : Pending). p.several) a b never) i;
}

machines : (a b : Machine) → CanNotDiffer a b → a ≡ b
machines a b never = λ i. record {
  state = unwrap_or
      (states (Some a.state) (Some b.state) (part (λ (m : Machine). Some m.state) a b never) i) a.state;
  expires_in =
      options numbers a.expires_in b.expires_in (part (λ (m : Machine). m.expires_in) a b never) i;
  pending = options pendings a.pending b.pending (part (λ (m : Machine). m.pending) a b never) i;
}

-- ---- the packets that set the timers of a machine that changed

shifted : (ms a b : ℕ) → nat_eq (ms + a) (ms + b) ≡ nat_eq a b
shifted ms a b =
    elim (a == b) as (λ t. a == b ≡ t → (ms + a == ms + b) ≡ t) [
      | true ↦ λ e. eq-eqb (ms + a) (ms + b) (ap (λ n. ms + n) (eqb-true a b e))
      | false ↦ λ e. ne_eqb (ms + a) (ms + b)
          (λ same. let one : a ≡ b = omega (arith, same) in false≢true (sym e ∙ eq-eqb a b one))
    ] refl

same_end : (ms : ℕ) (a b : Option ℕ) →
    option_eq nat_eq (option_map (λ left. ms + left) a) (option_map (λ left. ms + left) b) ≡ option_eq nat_eq a b
same_end ms None None = refl
same_end ms None (Some b) = refl
same_end ms (Some a) None = refl
same_end ms (Some a) (Some b) = shifted ms a b

turned_if : {A : Type 0} (b : Bool) (x y : A) → (if b then x else y) ≡ (if not b then y else x)
turned_if true x y = refl
turned_if false x y = refl

same_if : {A : Type 0} (b : Bool) (x : A) → x ≡ (if b then x else x)
same_if true x = refl
same_if false x = refl

state_known : (ms : ℕ) (causes : Causes (List ℕ)) (machine : Option Machine) →
    state_of_machine machine ≡ state_in (known_of ms causes machine)
state_known ms causes None = refl
state_known ms causes (Some machine) = refl

overridden_is : (ms : ℕ) (causes : Causes (List ℕ)) (before : Option Machine) (b : Bool) →
    (if is_pending (state_of_machine before) && b then Some causes.pending.frame else None)
    ≡ (if is_pending (state_of_machine before) && b then pending_frame (known_of ms causes before) else None)
overridden_is ms causes None b = refl
overridden_is ms causes (Some machine) b = refl

module _ (ms : ℕ) (change : TransitionEvent (List ℕ)) where
  abbrev packet : Cause (List ℕ)
  packet = packet_of ms change

  moved : (causes : Causes (List ℕ)) (was now : Machine) (timer : Timer) →
      cause_of timer (moved_by packet causes was now)
      ≡ (if not (option_eq nat_eq (end_of timer ms (Some was)) (end_of timer ms (Some now))) then packet
      else cause_of timer causes)
  moved causes was now Expiry =
      turned_if (same_expiry was now) causes.expiry packet
      ∙ ap (λ b. if not b then packet else causes.expiry) (sym (same_end ms was.expires_in now.expires_in))
  moved causes was now PrunePending =
      turned_if (same_pending was now) causes.pending packet
      ∙ ap (λ b. if not b then packet else causes.pending)
      (sym (same_end ms (pending_left was.pending) (pending_left now.pending)))

  both : (timer : Timer) → cause_of timer (both_by packet) ≡ packet
  both Expiry = refl
  both PrunePending = refl

  -- what is known of a machine that changed
  changed_is : (none causes : Causes (List ℕ)) (before after : Option Machine) →
      change.before ≡ state_of_machine before → change.after ≡ after →
      known_of ms (unwrap_or (caused packet causes before after) none) after
      ≡ changed_known ms change (known_of ms causes before) after
  changed_is none causes before None was is = refl
  changed_is none causes None (Some now) was is = λ i. Some (record {
    state = now.state;
    ends = λ timer. end_of timer ms (Some now);
    by = λ timer. (both timer ∙ same_if (sets timer ms None change) packet) i;
    since = ms;
  })
  changed_is none causes (Some held) (Some now) was is = λ i. Some (record {
    state = now.state;
    ends = λ timer. end_of timer ms (Some now);
    by = λ timer.
        (moved causes held now timer
        ∙ sym (ap (λ b. if b then packet else cause_of timer causes) (sets_by timer))) i;
    since = causes.since;
  })
    where
      sets_by : (timer : Timer) → sets timer ms (end_of timer ms (Some held)) change
          ≡ not (option_eq nat_eq (end_of timer ms (Some held)) (end_of timer ms (Some now)))
      sets_by timer = rw (was, is) refl

-- ---- the machines that a message changed

abbrev Items : Type 0
Items = List (Transition (List ℕ))

module _ (apart : KeysAreDistinct) (port : ℕ) (frame : RecordPlace) (from : List ℕ) (ms neighbours : ℕ) where
  abbrev by : Cause (List ℕ)
  by = record { frame = frame; from = from; ms = ms }

  abbrev events_for : Ledger → Ledger → Items → List Occurrence
  events_for at ledger items = map (event_on at ms port) (changes_of ledger by neighbours items)

  abbrev first_for : Ledger → Ledger → Transition (List ℕ) → Occurrence
  first_for at ledger item = event_on at ms port (change_of ledger by neighbours item)

  abbrev known_with : Key (List ℕ) → Ledger → List (Record (List ℕ)) → Option Known
  known_with key ledger records = known_at key (record { ms = ms; records = records; causes = ledger.causes })

  item_named : (key : Key (List ℕ)) (item : Transition (List ℕ)) → item.key.port ≡ port →
      names key (Some port) item.key.group item.key.what ≡ same_key key item.key
  item_named key item on =
      ap (λ (p : ℕ). same_key key (record { port = p; group = item.key.group; what = item.key.what })) (sym on)

  item_quiet : (key : Key (List ℕ)) (at ledger : Ledger) (item : Transition (List ℕ)) → item.key.port ≡ port →
      same_key item.key key ≡ false → states_shown key (first_for at ledger item) ≡ None
  item_quiet key at ledger item on other =
      ap (λ b. if b then Some (state_of_machine item.before, state_of_machine item.after) else None)
      (item_named key item on ∙ turned apart item.key key other)

  neither : (a b : Bool) → (a || b) ≡ false → (a ≡ false) × (b ≡ false)
  neither true b e = absurd (false≢true (sym e))
  neither false b e = (refl, e)

  -- items of other machines tell nothing, and touch nothing
  others_lead : (key : Key (List ℕ)) (held : Option Known) (at ledger : Ledger) (items : Items) →
      AllByRecursion (λ (item : Transition (List ℕ)). item.key.port ≡ port) items → has_transition key items ≡ false →
      Leads key held (events_for at ledger items) held
  unfolding changes_of
  others_lead key held at ledger [] on none = leads_nowhere key held
  others_lead key held at ledger (item ∷ items) on none =
      let parts = neither (same_key item.key key) (has_transition key items) none in
      leads_past key held held (first_for at ledger item) (events_for at (with_change by item ledger) items)
      (item_quiet key at ledger item on.0 parts.0)
      (others_lead key held at (with_change by item ledger) items on.1 parts.1)

  others_cause : (key : Key (List ℕ)) (ledger : Ledger) (items : Items) → has_transition key items ≡ false →
      (with_changes by items ledger).causes key ≡ ledger.causes key
  unfolding with_changes
  others_cause key ledger [] none = refl
  others_cause key ledger (item ∷ items) none =
      let parts = neither (same_key item.key key) (has_transition key items) none in
      others_cause key (with_change by item ledger) items parts.1 ∙ rw parts.0 refl

  none_above : (key : Key (List ℕ)) (items : Items) →
      AllByRecursion (λ (other : Key (List ℕ)). key_cmp key other ≡ Less) (keys_of_transitions items) →
      has_transition key items ≡ false
  none_above key [] above = refl
  none_above key (item ∷ items) above =
      rw (turned apart key item.key (ap is_eq above.0)) (none_above key items above.1)

  module _ (start : Start) (events : List Event) (before after : List (Record (List ℕ))) where
    abbrev Is : Transition (List ℕ) → Type 0
    Is = IsTransition port start events before after

    -- an item leads its machine on
    item_leads : (at ledger : Ledger) (item : Transition (List ℕ)) (items : Items) → item.key.port ≡ port → Is item →
        has_transition item.key items ≡ false →
        LeadsBy item.key (known_with item.key ledger before) (first_for at ledger item)
        (known_with item.key (with_changes by (item ∷ items) ledger) after)
    unfolding with_changes
    item_leads at ledger item items on is none =
        let change : TransitionEvent (List ℕ) = change_by ledger by neighbours item in
        let no_packet = both_by (no_cause item.key.group) in
        let same = (apart item.key item.key).1.1 refl in
        let causes : (with_changes by items (with_change by item ledger)).causes item.key
        ≡ caused by (causes_of item.key ledger) item.before item.after =
        others_cause item.key (with_change by item ledger) items none
        ∙ ap (λ b. if b then caused by (causes_of item.key ledger) item.before item.after
        else ledger.causes item.key) same in
        tells_change (record {
          change = change;
          what = refl;
          affected = item_named item.key item on ∙ same;
          was = state_known ms (causes_of item.key ledger) item.before
              ∙ ap (λ (m : Option Machine). state_in (known_of ms (causes_of item.key ledger) m)) is.was;
          overrides =
              overridden_is ms (causes_of item.key ledger) item.before (not (is_pending (state_of_machine item.after)))
              ∙ ap (λ (m : Option Machine).
              if ends_pending change then pending_frame (known_of ms (causes_of item.key ledger) m) else None) is.was;
          now = (λ i. known_of ms (unwrap_or (causes i) no_packet) (sym is.is i))
              ∙ changed_is ms change no_packet (causes_of item.key ledger) item.before item.after refl refl
              ∙ ap (λ (m : Option Machine).
              changed_known ms change (known_of ms (causes_of item.key ledger) m) item.after) is.was;
        })

    items_lead : (key : Key (List ℕ)) (at ledger : Ledger) (items : Items) →
        AllByRecursion (λ (item : Transition (List ℕ)). item.key.port ≡ port) items → AllByRecursion Is items →
        IsStrictlySortedBy key_cmp (keys_of_transitions items) →
        Leads key (known_with key ledger before) (events_for at ledger items)
        (known_with key (with_changes by items ledger) (if has_transition key items then after else before))
    unfolding changes_of with_changes IsStrictlySortedBy
    items_lead key at ledger [] on each up = leads_nowhere key (known_with key ledger before)
    items_lead key at ledger (item ∷ items) on each up =
        let next = with_change by item ledger in let last = with_changes by items next in
        elim (same_key item.key key)
        as (λ b. same_key item.key key ≡ b →
        Leads key (known_with key ledger before) (events_for at ledger (item ∷ items))
        (known_with key last (if b || has_transition key items then after else before))) [
          | true ↦ λ is.
              let none = none_above item.key items up.0 in
              subst
              (λ (k : Key (List ℕ)).
              Leads k (known_with k ledger before) (events_for at ledger (item ∷ items)) (known_with k last after))
              ((apart item.key key).1.0 is)
              (leads_first item.key (known_with item.key ledger before) (known_with item.key last after)
              (known_with item.key last after) (first_for at ledger item) (events_for at next items)
              (item_leads at ledger item items on.0 each.0 none)
              (others_lead item.key (known_with item.key last after) at next items on.1 none))
          | false ↦ λ is.
              leads_past key (known_with key ledger before)
              (known_with key last (if has_transition key items then after else before)) (first_for at ledger item)
              (events_for at next items) (item_quiet key at ledger item on.0 is)
              (subst
              (λ (o : Option (Causes (List ℕ))).
              Leads key (known_of ms (unwrap_or o (both_by (no_cause key.group))) (machine_at key before))
              (events_for at next items)
              (known_with key last (if has_transition key items then after else before)))
              (ap (λ b. if b then caused by (causes_of item.key ledger) item.before item.after
              else ledger.causes key) is) (items_lead key at next items on.1 each.1 up.1))
        ] refl

    -- a machine that isn't told stays
    untold_stays : (key : Key (List ℕ)) (items : Items) → AreTransitions port start events before after items →
        has_transition key items ≡ false → machine_at key before ≡ machine_at key after
    untold_stays key items are none =
        options machines (machine_at key before) (machine_at key after)
        (λ differ. false≢true (sym none ∙ are.all key differ))

    all_lead : (items : Items) → AllByRecursion (λ (item : Transition (List ℕ)). item.key.port ≡ port) items →
        AreTransitions port start events before after items → (at ledger : Ledger) (key : Key (List ℕ)) →
        Leads key (known_with key ledger before) (events_for at ledger items)
        (known_with key (with_changes by items ledger) after)
    all_lead items on are at ledger key =
        let last = with_changes by items ledger in
        elim (has_transition key items)
        as (λ b. has_transition key items ≡ b →
        Leads key (known_with key ledger before) (events_for at ledger items)
        (known_with key last (if b then after else before)) →
        Leads key (known_with key ledger before) (events_for at ledger items) (known_with key last after)) [
          | true ↦ λ is l. l
          | false ↦ λ is l.
              subst
              (λ (m : Option Machine).
              Leads key (known_with key ledger before) (events_for at ledger items)
              (known_of ms (causes_of key last) m)) (untold_stays key items are is) l
        ] refl (items_lead key at ledger items on are.each are.ascending)

  module _ (leaves : HearingLeavesOtherPorts) (keeps : HearingKeepsTheOrder) (start : Start) (events : List Event)
      (records : List (Record (List ℕ))) (up : IsAscending records) where
    abbrev then' : List (Record (List ℕ))
    then' = hearing port start events records

    on_port : (item : Transition (List ℕ)) → IsTransition port start events records then' item →
        item.key.port ≡ port
    on_port item is =
        numbers item.key.port port
        (λ differ. is.differ (is.was ∙ sym (leaves port start events records item.key up differ) ∙ sym is.is))

    all_on_port : (items : Items) → AllByRecursion (IsTransition port start events records then') items →
        AllByRecursion (λ (item : Transition (List ℕ)). item.key.port ≡ port) items
    all_on_port [] each = tt
    all_on_port (item ∷ items) each = (on_port item each.0, all_on_port items each.1)

    -- the transitions of a message lead each machine on
    pub changes_lead : (items : Items) → AreTransitions port start events records then' items →
        (at ledger : Ledger) →
        LeadsAll (record { ms = ms; records = records; causes = ledger.causes }) (events_for at ledger items)
        (record { ms = ms; records = then'; causes = (with_changes by items ledger).causes })
    changes_lead items are at ledger = record {
      ascending = keeps port start events records up;
      each = all_lead start events records then' items (all_on_port items are.each) are at ledger;
    }

-- ---- what a packet says beside them tells nothing of machines

module _ (frame : RecordPlace) (from : List ℕ) (known : List ℕ → Option (List ℕ)) where
  quiet_entry : (group : List ℕ) (e : Entry (List ℕ)) → AllQuiet (ignored_entry frame from known group e)
  quiet_entry group (entry.Star rp) = by (is_known (known group) rp)
    where
      by : (b : Bool) →
          AllQuiet
          (if b then [] else join_ignored
          (record { frame = frame; from = from; group = group; names = rp; rp = known group }) ∷ [])
      by true = tt
      by false = ((λ key port. refl), tt)
  quiet_entry group (entry.Source source) = tt
  quiet_entry group (entry.Rpt source) = tt

  pub quiet_ignored : (sets : List GroupSet) → AllQuiet (all_ignored frame from known sets)
  quiet_ignored sets =
      quiet_flat (ignored_in frame from known)
      (λ (set : GroupSet). quiet_flat (ignored_entry frame from known set.group)
      (quiet_entry set.group) set.joined) sets

pub quiet_restarts : (frame : RecordPlace) (before : Option (Option ℕ)) (said : Option Parameters) →
    AllQuiet (restarts frame before said)
quiet_restarts frame before None = tt
quiet_restarts frame None (Some said) = tt
quiet_restarts frame (Some was) (Some said) =
    elim (option_eq nat_eq was said.generation) as
    (λ b. AllQuiet
    (if b then [] else own_restart (record { frame = frame; was = was; generation = said.generation }) ∷ [])) [
      | true ↦ tt
      | false ↦ ((λ key port. refl), tt)
    ]
