-- The events of a trace with the state list the state, and without them the trace goes on.
use Rattle.pim_trace.proofs.Words.{◌≡◌, ◌∙◌, ℕ, Bool, true, false, not, if◌then◌else◌, List, [], ◌∷◌, ◌++◌, map, length}
use Rattle.pim_trace.proofs.Words.{Option, None, Some, slice_index_or, refl, sym, ap, subst, append-nil, flat_map, AllByRecursion}
use Rattle.pim_trace.proofs.Words.{false≢true, option_eq, nat_eq, AddressFamily, End, Taken, MergeState, Parameters}
use Rattle.pim_trace.proofs.Words.{Message, RecordPlace}
use Rattle.pim_trace.proofs.Words.{Record, rp_of, is_known, Happening, timed_out, Verdict, Packet, received, neighbours_on}
use Rattle.pim_trace.proofs.Words.{RouterState, Cause, Happened, Occurrence, hello_heard, packet_judged, machine_changed}
use Rattle.pim_trace.proofs.Words.{join_ignored, own_restart, record_skipped, neighbour_gone, Transition, Ledger, with_change}
use Rattle.pim_trace.proofs.Words.{event_on, event_of, after_happening, events_in, PassesTime, HearsPacket, ignored_entry}
use Rattle.pim_trace.proofs.Words.{ignored_in}
use Rattle.pim_trace.proofs.Words.{all_ignored, changes_of, restarts, applied_says, says, as_cause}
use Rattle.pim_trace.proofs.Words.{hello_read, message_read, WritesTurns, RunsUntil, IsTrace, ending, TakesContent, packet_on}
use Rattle.pim_trace.proofs.Words.{WritesTurn, frame_of, append_assoc}
use Rattle.pim_jp.specs.declared.entry.Entry.{Entry}
use Rattle.pim_jp.specs.declared.entry.Entry.TheVariants as entry
use Rattle.pim_router.specs.Happening as router
use Rattle.pim_router.specs.declared.verdict.Verdict.TheVariants as verdict
use Rattle.pim_merge.specs.Content.{Content, holds, of_other_family, without_packet, no_record, content_in}
use Rattle.pim_events.specs.Events.{timer_fired, machine_held, entry_wanted, run_ended}
use Rattle.pim_events.specs.declared.event.WantedEntry.{WantedEntry}
use Rattle.pim_trace.specs.StateEvents.{held_event, wanted_event, demand_entries, held_events, wanted_events}
use Rattle.pim_trace.specs.StateTrace.{IsStateTrace}
use Rattle.pim_trace.specs.StateLaws.{record_in, records_in, entry_in, entries_in, is_of_state, without_state, ListState}
use Rattle.pim_trace.specs.StateLaws.{TraceListsState}
use Rattle.std.proofs.lemmas.List.Concat.{flat_map-append}

-- ---- no event of turns or of time is one of the state

abbrev pub Other : Happened → Type 0
Other what = is_of_state what ≡ false

abbrev AllOther : List Happened → Type 0
AllOther whats = AllByRecursion Other whats

abbrev pub Plain : List Occurrence → Type 0
Plain events = AllByRecursion (λ event. Other event.what) events

pub all_append : {A : Type 0} (P : A → Type 0) (xs ys : List A) → AllByRecursion P xs → AllByRecursion P ys →
    AllByRecursion P (xs ++ ys)
all_append P [] ys a b = b
all_append P (x ∷ xs) ys a b = (a.0, all_append P xs ys a.1 b)

all_flat : {A B : Type 0} (P : B → Type 0) (f : A → List B) → ((x : A) → AllByRecursion P (f x)) → (xs : List A) →
    AllByRecursion P (flat_map f xs)
all_flat P f each [] = tt
all_flat P f each (x ∷ xs) = all_append P (f x) (flat_map f xs) (each x) (all_flat P f each xs)

plain_on : (ledger : Ledger) (ms port : ℕ) (whats : List Happened) → AllOther whats → Plain (map (event_on ledger ms port) whats)
plain_on ledger ms port [] all = tt
plain_on ledger ms port (what ∷ whats) all = (all.0, plain_on ledger ms port whats all.1)

one_if : (b : Bool) (what : Happened) → Other what → AllOther (if b then [] else what ∷ [])
one_if true what p = tt
one_if false what p = (p, tt)

other_ignored : (frame : RecordPlace) (from : List ℕ) (known : List ℕ → Option (List ℕ)) (group : List ℕ) (this : Entry (List ℕ)) →
    AllOther (ignored_entry frame from known group this)
other_ignored frame from known group (entry.Star rp) =
    one_if (is_known (known group) rp) (join_ignored
    (record { frame = frame; from = from; group = group; names = rp; rp = known group })) refl
other_ignored frame from known group (entry.Source source) = tt
other_ignored frame from known group (entry.Rpt source) = tt

other_changes : (packet : Cause (List ℕ)) (neighbours : ℕ) (ledger : Ledger) (changes : List (Transition (List ℕ))) →
    AllOther (changes_of ledger packet neighbours changes)
unfolding changes_of
other_changes packet neighbours ledger [] = tt
other_changes packet neighbours ledger (change ∷ changes) =
    (refl, other_changes packet neighbours (with_change packet change ledger) changes)

other_restarts : (frame : RecordPlace) (before : Option (Option ℕ)) (said : Option Parameters) → AllOther (restarts frame before said)
other_restarts frame before None = tt
other_restarts frame None (Some said) = tt
other_restarts frame (Some was) (Some said) =
    one_if (option_eq nat_eq was said.generation)
    (own_restart (record { frame = frame; was = was; generation = said.generation })) refl

module _ (family : AddressFamily) (frame : RecordPlace) (packet : Packet) (state : RouterState) (ledger : Ledger)
    (changes : List (Transition (List ℕ))) where
  other_applied : (message : Option Message) → AllOther (applied_says family frame packet state ledger message changes)
  other_applied None = tt
  other_applied (Some message) =
      all_append Other (all_ignored frame packet.source (rp_of family state.routes) message.sets) _
      (all_flat Other (ignored_in frame packet.source (rp_of family state.routes))
      (λ set. all_flat Other (ignored_entry frame packet.source (rp_of family state.routes) set.group)
      (other_ignored frame packet.source (rp_of family state.routes) set.group) set.joined) message.sets)
      (other_changes (as_cause frame packet state) (length (neighbours_on packet.port state).entries) ledger changes)

  other_said : (v : Verdict) → AllOther (says family frame packet state ledger v changes)
  other_said verdict.Mine = (refl, other_restarts frame (slice_index_or ledger.own packet.port None) (hello_read family packet))
  other_said (verdict.Malformed fault) = (refl, tt)
  other_said (verdict.OtherType type) = (refl, tt)
  other_said (verdict.HelloTaken heard) = (refl, tt)
  other_said verdict.UnknownNeighbour = (refl, tt)
  other_said verdict.NotForUs = (refl, tt)
  other_said (verdict.Full full) = (refl, tt)
  other_said verdict.Applied = (refl, other_applied (message_read family packet))

plain_is : (events others : List Occurrence) → events ≡ others → Plain others → Plain events
plain_is events others same plain = subst (λ (es : List Occurrence). Plain es) (sym same) plain

plain_packet : (family : AddressFamily) (frame : RecordPlace) (packet : Packet) (ledger ledger' : Ledger) (state after : RouterState)
    (events : List Occurrence)
    → HearsPacket family frame packet ledger state events ledger' after → Plain events
plain_packet family frame packet ledger ledger' state after events h =
    plain_is events _ h.events_are (plain_on ledger state.machines.moment packet.port _
    (other_said family frame packet state ledger h.changes (received family packet state).0))

plain_happening : (ledger : Ledger) (ms : ℕ) (what : Happening) → Other (event_of ledger ms what).what
plain_happening ledger ms (timed_out port address) = refl
plain_happening ledger ms (router.timer_fired firing) = refl

plain_happened : (happened : List (ℕ × Happening)) (ledger : Ledger) → Plain (events_in ledger happened)
unfolding events_in
plain_happened [] ledger = tt
plain_happened (first ∷ others) ledger = (
  plain_happening ledger first.0 first.1,
  plain_happened others
      (after_happening first.1 ledger),
)

plain_time : (moment : ℕ) (ledger ledger' : Ledger) (state after : RouterState) (events : List Occurrence) →
    PassesTime moment ledger state events ledger' after → Plain events
plain_time moment ledger ledger' state after events p = plain_is events _ p.events_are (plain_happened p.happened ledger)

module _ (family : AddressFamily) where
  plain_content : (port : ℕ) (frame : RecordPlace) (content : Content) (ledger ledger' : Ledger) (state after : RouterState)
      (events : List Occurrence)
      → TakesContent family port frame content ledger state events ledger' after → Plain events
  plain_content port frame (holds source destination payload) ledger ledger' state after events takes =
      plain_packet family frame (packet_on port source destination payload) ledger ledger' state after events takes
  plain_content port frame of_other_family ledger ledger' state after events takes = plain_is events _ takes.0 (refl, tt)
  plain_content port frame (without_packet why) ledger ledger' state after events takes = plain_is events _ takes.0 (refl, tt)
  plain_content port frame no_record ledger ledger' state after events takes = plain_is events [] takes.0 tt

  plain_turn : (turn : Taken) (ledger ledger' : Ledger) (state after : RouterState) (events : List Occurrence) →
      WritesTurn family turn ledger state events ledger' after → Plain events
  plain_turn turn ledger ledger' state after events t =
      plain_is events _ t.events_are (all_append (λ (event : Occurrence). Other event.what) t.way t.of_record
      (plain_time turn.moment _ t.ledger_then state t.between t.way t.passes)
      (plain_content turn.capture (frame_of turn.capture t.ledger_then) (content_in family turn.reported) t.ledger_then
      ledger' t.between after t.of_record t.takes))

  plain_turns : (turns : List Taken) (ledger ledger' : Ledger) (state after : RouterState) (events : List Occurrence) →
      WritesTurns family turns ledger state events ledger' after → Plain events
  unfolding WritesTurns
  plain_turns [] ledger ledger' state after events t = plain_is events [] t.0 tt
  plain_turns (turn ∷ turns) ledger ledger' state after events (one, more, next, between, first, others, are) =
      plain_is events _ are (all_append (λ (event : Occurrence). Other event.what) one more
      (plain_turn turn ledger next state between one first) (plain_turns turns next ledger' between after more others))

  pub plain_run : (taken : List Taken) (until : ℕ → ℕ) (state after : RouterState) (events : List Occurrence)
      (ledger : Ledger) → RunsUntil until family state taken events ledger after → Plain events
  plain_run taken until state after events ledger r =
      plain_is events _ r.events_are (all_append (λ (event : Occurrence). Other event.what) r.turns r.way
      (plain_turns taken _ r.ledger_then state r.between r.turns r.wrote)
      (plain_time (until r.between.machines.moment) r.ledger_then ledger r.between after r.way r.passes))

-- ---- what plain events list

no_record_in : (port : Option ℕ) (what : Happened) → Other what → record_in port what ≡ []
no_record_in None what p = refl
no_record_in (Some port) (machine_held held) p = absurd (false≢true (sym p))
no_record_in (Some port) (entry_wanted wanted) p = refl
no_record_in (Some port) (hello_heard hello) p = refl
no_record_in (Some port) (packet_judged packet) p = refl
no_record_in (Some port) (machine_changed change) p = refl
no_record_in (Some port) (join_ignored ignored) p = refl
no_record_in (Some port) (own_restart restart) p = refl
no_record_in (Some port) (record_skipped skipped) p = refl
no_record_in (Some port) (neighbour_gone gone) p = refl
no_record_in (Some port) (timer_fired firing) p = refl
no_record_in (Some port) (run_ended last) p = refl

no_entry_in : (what : Happened) → Other what → entry_in what ≡ []
no_entry_in (entry_wanted wanted) p = absurd (false≢true (sym p))
no_entry_in (machine_held held) p = refl
no_entry_in (hello_heard hello) p = refl
no_entry_in (packet_judged packet) p = refl
no_entry_in (machine_changed change) p = refl
no_entry_in (join_ignored ignored) p = refl
no_entry_in (own_restart restart) p = refl
no_entry_in (record_skipped skipped) p = refl
no_entry_in (neighbour_gone gone) p = refl
no_entry_in (timer_fired firing) p = refl
no_entry_in (run_ended last) p = refl

no_records : (events : List Occurrence) → Plain events → records_in events ≡ []
no_records [] p = refl
no_records (event ∷ events) p = ap (λ (rs : List (Record (List ℕ))). rs ++ records_in events)
    (no_record_in event.port event.what p.0) ∙ no_records events p.1

no_entries : (events : List Occurrence) → Plain events → entries_in events ≡ []
no_entries [] p = refl
no_entries (event ∷ events) p = ap (λ (es : List (WantedEntry (List ℕ))). es ++ entries_in events)
    (no_entry_in event.what p.0) ∙ no_entries events p.1

-- ---- the events of the state

module _ (ledger : Ledger) (ms : ℕ) where
  held_records : (records : List (Record (List ℕ))) → records_in (map (held_event ledger ms) records) ≡ records
  held_records [] = refl
  held_records (first ∷ records) = ap (λ (rs : List (Record (List ℕ))). first ∷ rs) (held_records records)

  held_entries : (records : List (Record (List ℕ))) → entries_in (map (held_event ledger ms) records) ≡ []
  held_entries [] = refl
  held_entries (first ∷ records) = held_entries records

module _ (ms : ℕ) (epoch : Option ℕ) where
  wanted_records : (entries : List (WantedEntry (List ℕ))) → records_in (map (wanted_event ms epoch) entries) ≡ []
  wanted_records [] = refl
  wanted_records (first ∷ entries) = wanted_records entries

  wanted_entries : (entries : List (WantedEntry (List ℕ))) → entries_in (map (wanted_event ms epoch) entries) ≡ entries
  wanted_entries [] = refl
  wanted_entries (first ∷ entries) = ap (λ (es : List (WantedEntry (List ℕ))). first ∷ es) (wanted_entries entries)

-- ---- the other events

module _ (rest : List Occurrence) where
  kept : (events : List Occurrence) → Plain events → without_state (events ++ rest) ≡ events ++ without_state rest
  kept [] p = refl
  kept (event ∷ events) p =
      ap (λ (b : Bool). if not b then event ∷ without_state (events ++ rest) else without_state (events ++ rest)) p.0
      ∙ ap (λ (es : List Occurrence). event ∷ es) (kept events p.1)

  held_dropped : (ledger : Ledger) (ms : ℕ) (records : List (Record (List ℕ))) →
      without_state (map (held_event ledger ms) records ++ rest) ≡ without_state rest
  held_dropped ledger ms [] = refl
  held_dropped ledger ms (first ∷ records) = held_dropped ledger ms records

  wanted_dropped : (ms : ℕ) (epoch : Option ℕ) (entries : List (WantedEntry (List ℕ))) →
      without_state (map (wanted_event ms epoch) entries ++ rest) ≡ without_state rest
  wanted_dropped ms epoch [] = refl
  wanted_dropped ms epoch (first ∷ entries) = wanted_dropped ms epoch entries

-- ---- a trace with the state

module _ (family : AddressFamily) (end : End) (merge : MergeState) (state : RouterState) (events : List Occurrence)
    (ledger : Ledger) (after : RouterState)
    (t : IsStateTrace family end merge state events ledger after) where
  abbrev held : List Occurrence
  held = held_events ledger after

  abbrev wanted : List Occurrence
  wanted = wanted_events family ledger after t.form

  abbrev last : List Occurrence
  last = ending ledger after ∷ []

  plain : Plain t.reported
  plain = plain_run family t.wrote.taken _ state after t.reported ledger t.wrote.runs

  -- what the events list, by what those of the state list
  module _ {A : Type 0} (listed : Occurrence → List A) (none : (xs : List Occurrence) → Plain xs → flat_map listed xs ≡ []) where
    of_state : listed (ending ledger after) ≡ [] → flat_map listed events ≡ flat_map listed held ++ flat_map listed wanted
    of_state no_end =
        ap (flat_map listed) t.events_are ∙ flat_map-append listed t.reported ((held ++ wanted) ++ last)
        ∙ ap (λ (rest : List A). rest ++ flat_map listed ((held ++ wanted) ++ last)) (none t.reported plain)
        ∙ flat_map-append listed (held ++ wanted) last
        ∙ ap (λ (rest : List A). flat_map listed (held ++ wanted) ++ (rest ++ [])) no_end
        ∙ append-nil (flat_map listed (held ++ wanted)) ∙ flat_map-append listed held wanted

  records : records_in events ≡ after.machines.records
  records =
      of_state (λ event. record_in event.port event.what) no_records refl
      ∙ ap (λ (rs : List (Record (List ℕ))). rs ++ records_in wanted)
      (held_records ledger after.machines.moment after.machines.records)
      ∙ ap (λ (rs : List (Record (List ℕ))). after.machines.records ++ rs)
      (wanted_records after.machines.moment _ (demand_entries family after.routes t.form))
      ∙ append-nil after.machines.records

  entries : entries_in events ≡ demand_entries family after.routes t.form
  entries =
      of_state (λ event. entry_in event.what) no_entries refl
      ∙ ap (λ (es : List (WantedEntry (List ℕ))). es ++ entries_in wanted)
      (held_entries ledger after.machines.moment after.machines.records)
      ∙ wanted_entries after.machines.moment _ (demand_entries family after.routes t.form)

  others : without_state events ≡ t.reported ++ last
  others =
      ap without_state t.events_are ∙ kept ((held ++ wanted) ++ last) t.reported plain
      ∙ ap (λ (es : List Occurrence). t.reported ++ es)
      (ap without_state (append_assoc held wanted last)
      ∙ held_dropped (wanted ++ last) ledger after.machines.moment after.machines.records
      ∙ wanted_dropped last after.machines.moment _ (demand_entries family after.routes t.form))

  both : ListState family events after × IsTrace family end merge state (without_state events) after
  both = (
    record { records = records; form = t.form; demand = t.demand; entries = entries },
    record { reported = t.reported; ledger = ledger; wrote = t.wrote; events_are = others },
  )

pub trace_lists : TraceListsState
trace_lists = both
