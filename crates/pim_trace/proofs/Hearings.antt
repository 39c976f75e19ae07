-- What a call that hears a packet tells, and what is told of it where the call stops.
use Rattle.pim_trace.proofs.Words.{◌≡◌, ℕ, Bool, true, false, List, [], ◌∷◌, ◌++◌, map, Option, None, Some, Result, Ok, Err}
use Rattle.pim_trace.proofs.Words.{IsErr, IfOk, OnOk, refl, sym, ap, subst, ◌∙◌, slice_index_or, false≢true, Appends}
use Rattle.pim_trace.proofs.Words.{AddressFamily, AppendsFront, AppendsAll, Hello, Parameters, neighbour_at, Heard, GroupSet}
use Rattle.pim_trace.proofs.Words.{Message, events_of, start_of, rp_of, Verdict, Packet, received, message_heard, neighbours_on}
use Rattle.pim_trace.proofs.Words.{timing_on, own_address, RouterState, Happened, Occurrence, hello_heard, Transition, Record}
use Rattle.pim_trace.proofs.Words.{TransitionsAreThere, TurnFault, Ledger, with_own, with_hello, with_changes, event_on}
use Rattle.pim_trace.proofs.Words.{generation_of, generation_in, greeting, judgment, restart_of, restarts, after_own, as_cause}
use Rattle.pim_trace.proofs.Words.{sent_by, message_says, applied_says, says, remembers, records_after, AreTransitionsOf}
use Rattle.pim_trace.proofs.Words.{AreChangesOf, HearsPacket, read_hello, read_message, packet_read, IsNoHello, IsForOther}
use Rattle.pim_trace.proofs.Words.{is_applied, hello_in, message_in, hello_read, message_read, HasBegun, Writes, text_on}
use Rattle.pim_trace.proofs.Words.{RecordPlace}
use Rattle.pim_router.specs.declared.verdict.Verdict.TheVariants as verdict
use Rattle.pim_trace.proofs.Verdicts.{taken_reads, reads_as, applied_leaves, other_is_refused}
use Rattle.pim_trace.proofs.Written.{front-longer}
use Rattle.pim_trace.proofs.Writing.{all-more, none-is-front, text-append}

-- ---- what a packet reads as

pub record SaysHello (generation : Option ℕ) (family : AddressFamily) (packet : Packet) : Type 0 where
  pub said : Parameters
  pub hello : hello_read family packet ≡ Some said
  pub is : said.generation ≡ generation
  pub no_message : message_read family packet ≡ None

pub says_hello : (family : AddressFamily) (packet : Packet) (said : Hello) → packet_read family packet ≡ read_hello said → SaysHello said.parameters.generation family packet
says_hello family packet said is = record { said = said.parameters; hello = ap hello_in is; is = refl; no_message = ap message_in is }

-- a message is no Hello
pub no_hello : (family : AddressFamily) (packet : Packet) (message : Message) → packet_read family packet ≡ read_message message → IsNoHello (Some message) (packet_read family packet)
no_hello family packet message is = (ap hello_in is, ap message_in is)

none_taken : (family : AddressFamily) (packet : Packet) (state : RouterState) (message : Option Message) → IsNoHello message (packet_read family packet) → (heard : Heard) → (received family packet state).0 ≡ verdict.HelloTaken heard → ⊥
none_taken family packet state message read heard is =
    let r = taken_reads family packet state heard is in
    let both : Some r.said.parameters ≡ None = sym (ap hello_in r.is) ∙ read.0 in
    cc

on_ok : {A E P : Type 0} (r : Result A E) → P → OnOk r P
on_ok (Ok x) p = p
on_ok (Err e) p = tt

on_ok_by : {A E : Type 0} (r : Result A E) (x y z : Ledger) → y ≡ z → OnOk r (x ≡ y) → OnOk r (x ≡ z)
on_ok_by (Ok a) x y z e p = p ∙ e
on_ok_by (Err f) x y z e p = tt

-- a message for another router isn't applied
pub other_unapplied : (family : AddressFamily) (packet : Packet) (state : RouterState) (message : Option Message) → IsNoHello message (packet_read family packet) → IsForOther (own_address packet.port state) message
    → (received family packet state).0 ≡ verdict.Applied → message ≡ None
other_unapplied family packet state None read names is = refl
other_unapplied family packet state (Some message) read names is = absurd (other_is_refused family packet state message (reads_as (packet_read family packet) message read.1) names is)

-- it was applied, or it was not
pub was_applied : (v : Verdict) (applied : Bool) → applied ≡ is_applied v → applied ≡ true → v ≡ verdict.Applied
was_applied v applied same is = by v (sym same ∙ is)
  where
    by : (v : Verdict) → is_applied v ≡ true → v ≡ verdict.Applied
    by verdict.Mine e = absurd (false≢true e)
    by (verdict.Malformed fault) e = absurd (false≢true e)
    by (verdict.OtherType type) e = absurd (false≢true e)
    by (verdict.HelloTaken heard) e = absurd (false≢true e)
    by verdict.UnknownNeighbour e = absurd (false≢true e)
    by verdict.NotForUs e = absurd (false≢true e)
    by (verdict.Full full) e = absurd (false≢true e)
    by verdict.Applied e = refl

pub not_applied : {P : Type 0} (v : Verdict) (applied : Bool) → applied ≡ is_applied v → applied ≡ false → v ≡ verdict.Applied → P
not_applied v applied same is e = absurd (false≢true (sym is ∙ same ∙ ap is_applied e))

-- ---- a packet that is heard

module _ (family : AddressFamily) (frame : RecordPlace) (packet : Packet) (ledger : Ledger) (state : RouterState) where
  abbrev verdict_is : Verdict
  verdict_is = (received family packet state).0

  abbrev state_is : RouterState
  state_is = (received family packet state).1

  abbrev Changed : Verdict → List (Transition (List ℕ)) → Type 0
  Changed v changes = AreChangesOf family packet state state_is v (message_read family packet) changes

  -- the packet says this, and the trace remembers that
  pub record Says (reported : List Happened) (ledger' : Ledger) : Type 0 where
    pub changes : List (Transition (List ℕ))
    pub are : Changed verdict_is changes
    pub said : says family frame packet state ledger verdict_is changes ≡ reported
    pub kept : remembers family frame packet state ledger verdict_is changes ≡ ledger'

  abbrev Hears : List Occurrence → Ledger → RouterState → Type 0
  Hears events ledger' after = HearsPacket family frame packet ledger state events ledger' after

  hears : (reported : List Happened) (ledger' : Ledger) → Says reported ledger' → Hears (map (event_on ledger state.machines.moment packet.port) reported) ledger' state_is
  hears reported ledger' s = record {
    changes = s.changes;
    are = s.are;
    after_is = refl;
    events_are = ap (map (event_on ledger state.machines.moment packet.port)) (sym s.said);
    ledger_is = sym s.kept;
  }

  module _ (line : Occurrence → List ℕ) where
    abbrev text : List Happened → List ℕ
    text reported = text_on line ledger state.machines.moment packet.port reported

    -- all of what the packet says was told, or a front of it
    pub wrote : (reported : List Happened) (remembered : Ledger) → Says reported remembered → (r : Result (Unit {0}) TurnFault) (ledger' : Ledger) (after : RouterState) (old new : Option (List ℕ))
        → OnOk r (ledger' ≡ remembered) → OnOk r (after ≡ state_is) → AppendsAll old new r (text reported) → Writes line Hears ledger' after old new r
    wrote reported remembered s (Ok done) ledger' after old new kept left written = record {
      events = map (event_on ledger state.machines.moment packet.port) reported;
      are = subst (λ (a : RouterState). Hears (map (event_on ledger state.machines.moment packet.port) reported) ledger' a) (sym left)
          (subst (λ (l : Ledger). Hears (map (event_on ledger state.machines.moment packet.port) reported) l state_is) (sym kept) (hears reported remembered s));
      written = written;
    }
    wrote reported remembered s (Err fault) ledger' after old new kept left written = record {
      events = map (event_on ledger state.machines.moment packet.port) reported;
      ledger = remembered;
      after = state_is;
      are = hears reported remembered s;
      written = written;
    }

    -- a front of what the packet says first
    pub begins : (first more : List Happened) (remembered : Ledger) → Says (first ++ more) remembered → (old new : Option (List ℕ)) → AppendsFront old new (text first) → HasBegun line Hears old new
    begins first more remembered s old new written = record {
      events = map (event_on ledger state.machines.moment packet.port) (first ++ more);
      ledger = remembered;
      after = state_is;
      are = hears (first ++ more) remembered s;
      written = subst (λ l. AppendsFront old new l) (sym (text-append line ledger state.machines.moment packet.port first more)) (front-longer old new (text first) (text more) written);
    }

    -- nothing was told yet
    pub nothing_told : (reported : List Happened) (remembered : Ledger) → Says reported remembered → (old : Option (List ℕ)) → HasBegun line Hears old old
    nothing_told reported remembered s old = record {
      events = map (event_on ledger state.machines.moment packet.port) reported;
      ledger = remembered;
      after = state_is;
      are = hears reported remembered s;
      written = none-is-front old (text reported);
    }

  -- ---- a Hello

  module _ (generation : Option ℕ) (hello : SaysHello generation family packet) where
    unchanged : (v : Verdict) → Changed v []
    unchanged v = subst (λ (m : Option Message). AreChangesOf family packet state state_is v m []) (sym hello.no_message) (by v)
      where
        by : (v : Verdict) → AreChangesOf family packet state state_is v None []
        by verdict.Mine = refl
        by (verdict.Malformed fault) = refl
        by (verdict.OtherType type) = refl
        by (verdict.HelloTaken heard) = refl
        by verdict.UnknownNeighbour = refl
        by verdict.NotForUs = refl
        by (verdict.Full full) = refl
        by verdict.Applied = refl

    -- a Hello that was taken
    pub greets : (heard : Heard) (was : Option ℕ) → verdict_is ≡ verdict.HelloTaken heard → was ≡ generation_of (neighbour_at packet.source (neighbours_on packet.port state))
        → Says (hello_heard (record { frame = frame; from = packet.source; verdict = heard; was = was; generation = generation }) ∷ [])
        (with_hello packet.port packet.source (sent_by frame state.machines.moment heard) ledger)
    greets heard was v_is was_is = record {
      changes = [];
      are = unchanged verdict_is;
      said = ap (λ (v : Verdict). says family frame packet state ledger v []) v_is ∙ ap (λ (h : Happened). h ∷ []) same;
      kept = ap (λ (v : Verdict). remembers family frame packet state ledger v []) v_is;
    }
      where
        same : greeting family frame packet state heard ≡ hello_heard (record { frame = frame; from = packet.source; verdict = heard; was = was; generation = generation })
        same =
            ap (λ (w : Option ℕ). hello_heard (record { frame = frame; from = packet.source; verdict = heard; was = w; generation = generation_in (hello_read family packet) })) (sym was_is)
            ∙ ap (λ (g : Option ℕ). hello_heard (record { frame = frame; from = packet.source; verdict = heard; was = was; generation = g })) (ap generation_in hello.hello ∙ hello.is)

    -- the port's own Hello
    pub restarts_by : verdict_is ≡ verdict.Mine
        → Says (judgment family frame packet verdict.Mine ∷ restart_of frame (slice_index_or ledger.own packet.port None) generation) (with_own packet.port generation ledger)
    restarts_by v_is = record {
      changes = [];
      are = unchanged verdict_is;
      said = ap (λ (v : Verdict). says family frame packet state ledger v []) v_is ∙ ap (λ (hs : List Happened). judgment family frame packet verdict.Mine ∷ hs) reported;
      kept = ap (λ (v : Verdict). remembers family frame packet state ledger v []) v_is ∙ after;
    }
      where
        reported : restarts frame (slice_index_or ledger.own packet.port None) (hello_read family packet) ≡ restart_of frame (slice_index_or ledger.own packet.port None) generation
        reported = ap (restarts frame (slice_index_or ledger.own packet.port None)) hello.hello ∙ ap (restart_of frame (slice_index_or ledger.own packet.port None)) hello.is

        after : after_own packet.port (hello_read family packet) ledger ≡ with_own packet.port generation ledger
        after = ap (λ (h : Option Parameters). after_own packet.port h ledger) hello.hello ∙ ap (λ (g : Option ℕ). with_own packet.port g ledger) hello.is

    -- one that isn't taken
    pub judges : (v : Verdict) → verdict_is ≡ v → ((heard : Heard) → v ≡ verdict.HelloTaken heard → ⊥) → (v ≡ verdict.Mine → ⊥) → Says (judgment family frame packet v ∷ []) ledger
    unfolding with_changes
    judges v v_is no_hello not_mine = record {
      changes = [];
      are = unchanged verdict_is;
      said = ap (λ (w : Verdict). says family frame packet state ledger w []) v_is ∙ said v no_hello not_mine;
      kept = ap (λ (w : Verdict). remembers family frame packet state ledger w []) v_is ∙ kept v no_hello not_mine;
    }
      where
        said : (v : Verdict) → ((heard : Heard) → v ≡ verdict.HelloTaken heard → ⊥) → (v ≡ verdict.Mine → ⊥) → says family frame packet state ledger v [] ≡ judgment family frame packet v ∷ []
        said verdict.Mine no_hello not_mine = absurd (not_mine refl)
        said (verdict.Malformed fault) no_hello not_mine = refl
        said (verdict.OtherType type) no_hello not_mine = refl
        said (verdict.HelloTaken heard) no_hello not_mine = absurd (no_hello heard refl)
        said verdict.UnknownNeighbour no_hello not_mine = refl
        said verdict.NotForUs no_hello not_mine = refl
        said (verdict.Full full) no_hello not_mine = refl
        said verdict.Applied no_hello not_mine = ap (λ (m : Option Message). judgment family frame packet verdict.Applied ∷ applied_says family frame packet state ledger m []) hello.no_message

        kept : (v : Verdict) → ((heard : Heard) → v ≡ verdict.HelloTaken heard → ⊥) → (v ≡ verdict.Mine → ⊥) → remembers family frame packet state ledger v [] ≡ ledger
        kept verdict.Mine no_hello not_mine = absurd (not_mine refl)
        kept (verdict.Malformed fault) no_hello not_mine = refl
        kept (verdict.OtherType type) no_hello not_mine = refl
        kept (verdict.HelloTaken heard) no_hello not_mine = absurd (no_hello heard refl)
        kept verdict.UnknownNeighbour no_hello not_mine = refl
        kept verdict.NotForUs no_hello not_mine = refl
        kept (verdict.Full full) no_hello not_mine = refl
        kept verdict.Applied no_hello not_mine = refl

    -- whatever becomes of it
    pub some_hello : Says (says family frame packet state ledger verdict_is []) (remembers family frame packet state ledger verdict_is [])
    some_hello = record { changes = []; are = unchanged verdict_is; said = refl; kept = refl }

  -- ---- another packet

  module _ (message : Option Message) (read : IsNoHello message (packet_read family packet)) where
    same_message : message_read family packet ≡ message
    same_message = read.1

    -- the verdict comes first
    more_said : Verdict → List (Transition (List ℕ)) → List Happened
    more_said (verdict.Applied) changes = applied_says family frame packet state ledger (message_read family packet) changes
    more_said v changes = []

    first_said : (changes : List (Transition (List ℕ))) → says family frame packet state ledger verdict_is changes ≡ judgment family frame packet verdict_is ∷ more_said verdict_is changes
    unfolding more_said
    first_said changes = by verdict_is (none_taken family packet state message read)
      where
        by : (v : Verdict) → ((heard : Heard) → v ≡ verdict.HelloTaken heard → ⊥) → says family frame packet state ledger v changes ≡ judgment family frame packet v ∷ more_said v changes
        by verdict.Mine none =
            ap (λ (h : Option Parameters). judgment family frame packet verdict.Mine ∷ restarts frame (slice_index_or ledger.own packet.port None) h) read.0
        by (verdict.Malformed fault) none = refl
        by (verdict.OtherType type) none = refl
        by (verdict.HelloTaken heard) none = absurd (none heard refl)
        by verdict.UnknownNeighbour none = refl
        by verdict.NotForUs none = refl
        by (verdict.Full full) none = refl
        by verdict.Applied none = refl

    -- a packet that changes nothing
    unapplied_changes : (verdict_is ≡ verdict.Applied → message ≡ None) → Changed verdict_is []
    unapplied_changes applied = subst (λ (m : Option Message). AreChangesOf family packet state state_is verdict_is m []) (sym same_message) (by verdict_is message applied)
      where
        by : (v : Verdict) (m : Option Message) → (v ≡ verdict.Applied → m ≡ None) → AreChangesOf family packet state state_is v m []
        by verdict.Mine m none = refl
        by (verdict.Malformed fault) m none = refl
        by (verdict.OtherType type) m none = refl
        by (verdict.HelloTaken heard) m none = refl
        by verdict.UnknownNeighbour m none = refl
        by verdict.NotForUs m none = refl
        by (verdict.Full full) m none = refl
        by verdict.Applied None none = refl
        by verdict.Applied (Some message) none = let differ : Some message ≡ None = none refl in absurd cc

    unapplied_more : (verdict_is ≡ verdict.Applied → message ≡ None) → more_said verdict_is [] ≡ []
    unfolding more_said
    unapplied_more applied = by verdict_is applied
      where
        by : (v : Verdict) → (v ≡ verdict.Applied → message ≡ None) → more_said v [] ≡ []
        by verdict.Mine none = refl
        by (verdict.Malformed fault) none = refl
        by (verdict.OtherType type) none = refl
        by (verdict.HelloTaken heard) none = refl
        by verdict.UnknownNeighbour none = refl
        by verdict.NotForUs none = refl
        by (verdict.Full full) none = refl
        by verdict.Applied none = ap (λ (m : Option Message). applied_says family frame packet state ledger m []) (same_message ∙ none refl)

    unapplied_kept : (verdict_is ≡ verdict.Applied → message ≡ None) → remembers family frame packet state ledger verdict_is [] ≡ ledger
    unfolding with_changes
    unapplied_kept applied = by verdict_is (none_taken family packet state message read)
      where
        by : (v : Verdict) → ((heard : Heard) → v ≡ verdict.HelloTaken heard → ⊥) → remembers family frame packet state ledger v [] ≡ ledger
        by verdict.Mine none = ap (λ (h : Option Parameters). after_own packet.port h ledger) read.0
        by (verdict.Malformed fault) none = refl
        by (verdict.OtherType type) none = refl
        by (verdict.HelloTaken heard) none = absurd (none heard refl)
        by verdict.UnknownNeighbour none = refl
        by verdict.NotForUs none = refl
        by (verdict.Full full) none = refl
        by verdict.Applied none = refl

    pub unapplied : (verdict_is ≡ verdict.Applied → message ≡ None) → Says (judgment family frame packet verdict_is ∷ []) ledger
    unapplied applied = record {
      changes = [];
      are = unapplied_changes applied;
      said = first_said [] ∙ ap (λ (hs : List Happened). judgment family frame packet verdict_is ∷ hs) (unapplied_more applied);
      kept = unapplied_kept applied;
    }

    -- a message that was applied has these transitions
    changed_by : (m : Message) → message ≡ Some m → verdict_is ≡ verdict.Applied → (changes : List (Transition (List ℕ)))
        → AreTransitionsOf family packet.port state m changes
        → Changed verdict_is changes
    changed_by m e v_is changes are =
        let left : state_is ≡ (message_heard family packet.port state m).1 = applied_leaves family packet state m (reads_as (packet_read family packet) m (read.1 ∙ e)) v_is in
        subst (λ (v : Verdict). AreChangesOf family packet state state_is v (message_read family packet) changes) (sym v_is)
        (subst (λ (o : Option Message). AreChangesOf family packet state state_is verdict.Applied o changes) (sym (same_message ∙ e))
        (subst (λ (after : RouterState). AreChangesOf family packet state after verdict.Applied (Some m) changes) (sym left) are))

    -- some transitions
    record SomeChanges : Type 0 where
      changes : List (Transition (List ℕ))
      are : Changed verdict_is changes

    some_changes : TransitionsAreThere → SomeChanges
    some_changes law = by message refl verdict_is refl
      where
        none_if : (verdict_is ≡ verdict.Applied → message ≡ None) → SomeChanges
        none_if never = record { changes = []; are = unapplied_changes never }

        by : (m : Option Message) → message ≡ m → (v : Verdict) → verdict_is ≡ v → SomeChanges
        by None e v v_is = none_if (λ is. e)
        by (Some m) e verdict.Mine v_is = none_if (λ is. let differ : verdict.Mine ≡ verdict.Applied = sym v_is ∙ is in absurd cc)
        by (Some m) e (verdict.Malformed fault) v_is = none_if (λ is. let differ : verdict.Malformed fault ≡ verdict.Applied = sym v_is ∙ is in absurd cc)
        by (Some m) e (verdict.OtherType type) v_is = none_if (λ is. let differ : verdict.OtherType type ≡ verdict.Applied = sym v_is ∙ is in absurd cc)
        by (Some m) e (verdict.HelloTaken heard) v_is = none_if (λ is. let differ : verdict.HelloTaken heard ≡ verdict.Applied = sym v_is ∙ is in absurd cc)
        by (Some m) e verdict.UnknownNeighbour v_is = none_if (λ is. let differ : verdict.UnknownNeighbour ≡ verdict.Applied = sym v_is ∙ is in absurd cc)
        by (Some m) e verdict.NotForUs v_is = none_if (λ is. let differ : verdict.NotForUs ≡ verdict.Applied = sym v_is ∙ is in absurd cc)
        by (Some m) e (verdict.Full full) v_is = none_if (λ is. let differ : verdict.Full full ≡ verdict.Applied = sym v_is ∙ is in absurd cc)
        by (Some m) e verdict.Applied v_is =
            let has = law packet.port (start_of m.holdtime (timing_on packet.port state)) (events_of (rp_of family state.routes) m) state.machines.records
            (records_after family packet.port state m) in
            record { changes = has.0; are = changed_by m e v_is has.0 has.1 }

    -- whatever becomes of it, its verdict comes first
    pub record Judged : Type 0 where
      pub more : List Happened
      pub remembered : Ledger
      pub says : Says (judgment family frame packet verdict_is ∷ more) remembered

    pub judged : TransitionsAreThere → Judged
    judged law =
        let some = some_changes law in
        record {
          more = more_said verdict_is some.changes;
          remembered = remembers family frame packet state ledger verdict_is some.changes;
          says = record { changes = some.changes; are = some.are; said = first_said some.changes; kept = refl };
        }

    applied_more : (m : Message) → message ≡ Some m → verdict_is ≡ verdict.Applied → (changes : List (Transition (List ℕ)))
        → more_said verdict_is changes ≡ message_says family frame packet state ledger m.sets changes
    unfolding more_said
    applied_more m e v_is changes =
        ap (λ (v : Verdict). more_said v changes) v_is ∙ ap (λ (o : Option Message). applied_says family frame packet state ledger o changes) (same_message ∙ e)

    -- an applied message, where `found` finds its transitions in the records after it
    pub applied_told : (m : Message) → message ≡ Some m → verdict_is ≡ verdict.Applied → (found : List (Record (List ℕ)) → List (Transition (List ℕ)))
        → AreTransitionsOf family packet.port state m (found (records_after family packet.port state m))
        → (sets : List GroupSet) → sets ≡ m.sets
        → (line : Occurrence → List ℕ) (after : RouterState) → after ≡ state_is
        → (r : Result (Unit {0}) TurnFault) (ledger' : Ledger) (a b c : Option (List ℕ))
        → Appends a b (text_on line ledger state.machines.moment packet.port (judgment family frame packet verdict_is ∷ []))
        → AppendsAll b c r (text_on line ledger after.machines.moment packet.port (message_says family frame packet after ledger sets (found after.machines.records)))
        → OnOk r (ledger' ≡ with_changes (as_cause frame packet after) (found after.machines.records) ledger)
        → Writes line Hears ledger' after a c r
    applied_told m e v_is found are sets sets_is line after after_is r ledger' a b c first written kept =
        let left : after ≡ (message_heard family packet.port state m).1 = after_is ∙ applied_leaves family packet state m (reads_as (packet_read family packet) m (read.1 ∙ e)) v_is in
        let changes = found (records_after family packet.port state m) in
        let says_all : Says (judgment family frame packet verdict_is ∷ message_says family frame packet state ledger m.sets changes) (with_changes (as_cause frame packet state) changes ledger) = record {
          changes = changes;
          are = changed_by m e v_is changes are;
          said = first_said changes ∙ ap (λ (hs : List Happened). judgment family frame packet verdict_is ∷ hs) (applied_more m e v_is changes);
          kept = ap (λ (v : Verdict). remembers family frame packet state ledger v changes) v_is;
        } in
        wrote line (judgment family frame packet verdict_is ∷ message_says family frame packet state ledger m.sets changes) (with_changes (as_cause frame packet state) changes ledger) says_all r ledger' after a c
        (on_ok_by r ledger' (with_changes (as_cause frame packet after) (found after.machines.records) ledger) (with_changes (as_cause frame packet state) changes ledger) (ap (λ (s : RouterState). with_changes (as_cause frame packet s) (found s.machines.records) ledger) left) kept)
        (on_ok r after_is)
        (subst (λ l. AppendsAll a c r l) (sym (text-append line ledger state.machines.moment packet.port (judgment family frame packet verdict_is ∷ []) (message_says family frame packet state ledger m.sets changes)))
        (all-more r a b c (text_on line ledger state.machines.moment packet.port (judgment family frame packet verdict_is ∷ [])) (text_on line ledger state.machines.moment packet.port (message_says family frame packet state ledger m.sets changes)) first
        (subst (λ (s : RouterState). AppendsAll b c r (text_on line ledger s.machines.moment packet.port (message_says family frame packet s ledger m.sets (found s.machines.records)))) left
        (subst (λ (gs : List GroupSet). AppendsAll b c r (text_on line ledger after.machines.moment packet.port (message_says family frame packet after ledger gs (found after.machines.records)))) sets_is written))))

-- ---- the returns of the calls

module _ (family : AddressFamily) (frame : RecordPlace) (packet : Packet) (ledger : Ledger) (state : RouterState) (line : Occurrence → List ℕ) where
  abbrev HearsIt : List Occurrence → Ledger → RouterState → Type 0
  HearsIt events ledger' after = HearsPacket family frame packet ledger state events ledger' after

  pair_left : (v : Verdict) (after : RouterState) → ◌≡◌ {A = Verdict × RouterState} (v, after) (received family packet state) → after ≡ (received family packet state).1
  pair_left v after pair = ap (λ (end : Verdict × RouterState). end.1) pair

  pair_is : (v w : Verdict) (after : RouterState) → ◌≡◌ {A = Verdict × RouterState} (v, after) (received family packet state) → v ≡ w → (received family packet state).0 ≡ w
  pair_is v w after pair is = sym (ap (λ (end : Verdict × RouterState). end.0) pair) ∙ is

  module _ (said : Hello) (reads : packet_read family packet ≡ read_hello said) where
    abbrev generation : Option ℕ
    generation = said.parameters.generation

    -- memory was refused before the Hello was told
    pub hello_stopped : (old : Option (List ℕ)) → HasBegun line HearsIt old old
    hello_stopped old =
        let s = some_hello family frame packet ledger state generation (says_hello family packet said reads) in
        nothing_told family frame packet ledger state line _ _ s old

    module _ (v : Verdict) (after : RouterState) (pair : ◌≡◌ {A = Verdict × RouterState} (v, after) (received family packet state)) (ms : ℕ) (now : ms ≡ state.machines.moment)
        (r : Result (Unit {0}) TurnFault) (ledger' : Ledger) (old new : Option (List ℕ)) where
      pub hello_told : (heard : Heard) (was : Option ℕ) → v ≡ verdict.HelloTaken heard → was ≡ generation_of (neighbour_at packet.source (neighbours_on packet.port state))
          → AppendsAll old new r (text_on line ledger ms packet.port (hello_heard (record { frame = frame; from = packet.source; verdict = heard; was = was; generation = generation }) ∷ []))
          → OnOk r (ledger' ≡ with_hello packet.port packet.source (sent_by frame ms heard) ledger) → Writes line HearsIt ledger' after old new r
      hello_told heard was is was_is written kept =
          wrote family frame packet ledger state line (hello_heard (record { frame = frame; from = packet.source; verdict = heard; was = was; generation = generation }) ∷ [])
          (with_hello packet.port packet.source (sent_by frame state.machines.moment heard) ledger)
          (greets family frame packet ledger state generation (says_hello family packet said reads) heard was (pair_is v (verdict.HelloTaken heard) after pair is) was_is)
          r ledger' after old new
          (subst (λ m. OnOk r (ledger' ≡ with_hello packet.port packet.source (sent_by frame m heard) ledger)) now kept)
          (on_ok r (pair_left v after pair))
          (subst (λ m. AppendsAll old new r (text_on line ledger m packet.port (hello_heard (record { frame = frame; from = packet.source; verdict = heard; was = was; generation = generation }) ∷ []))) now written)

      pub own_told : v ≡ verdict.Mine
          → AppendsAll old new r (text_on line ledger ms packet.port (judgment family frame packet verdict.Mine ∷ restart_of frame (slice_index_or ledger.own packet.port None) generation))
          → OnOk r (ledger' ≡ with_own packet.port generation ledger) → Writes line HearsIt ledger' after old new r
      own_told is written kept =
          wrote family frame packet ledger state line (judgment family frame packet verdict.Mine ∷ restart_of frame (slice_index_or ledger.own packet.port None) generation) (with_own packet.port generation ledger)
          (restarts_by family frame packet ledger state generation (says_hello family packet said reads) (pair_is v verdict.Mine after pair is))
          r ledger' after old new kept (on_ok r (pair_left v after pair))
          (subst (λ m. AppendsAll old new r (text_on line ledger m packet.port (judgment family frame packet verdict.Mine ∷ restart_of frame (slice_index_or ledger.own packet.port None) generation))) now written)

      pub verdict_told : ((heard : Heard) → v ≡ verdict.HelloTaken heard → ⊥) → (v ≡ verdict.Mine → ⊥) → ledger' ≡ ledger
          → AppendsAll old new r (text_on line ledger ms packet.port (judgment family frame packet v ∷ [])) → Writes line HearsIt ledger' after old new r
      verdict_told no_hello not_mine same written =
          wrote family frame packet ledger state line (judgment family frame packet v ∷ []) ledger
          (judges family frame packet ledger state generation (says_hello family packet said reads) v (pair_is v v after pair refl) no_hello not_mine)
          r ledger' after old new (on_ok r same) (on_ok r (pair_left v after pair))
          (subst (λ m. AppendsAll old new r (text_on line ledger m packet.port (judgment family frame packet v ∷ []))) now written)

  module _ (message : Option Message) (read : IsNoHello message (packet_read family packet)) where
    abbrev told_first : List ℕ
    told_first = text_on line ledger state.machines.moment packet.port (judgment family frame packet (received family packet state).0 ∷ [])

    -- a packet that isn't applied
    pub other_told : ((received family packet state).0 ≡ verdict.Applied → message ≡ None) → (r : Result (Unit {0}) TurnFault) (after : RouterState) (old new : Option (List ℕ))
        → OnOk r (after ≡ (received family packet state).1) → AppendsAll old new r told_first → Writes line HearsIt ledger after old new r
    other_told none r after old new left written =
        wrote family frame packet ledger state line (judgment family frame packet (received family packet state).0 ∷ []) ledger (unapplied family frame packet ledger state message read none)
        r ledger after old new (on_ok r refl) left written

    -- memory was refused before the message was heard
    pub message_stopped : TransitionsAreThere → (old : Option (List ℕ)) → HasBegun line HearsIt old old
    message_stopped law old =
        let j = judged family frame packet ledger state message read law in
        nothing_told family frame packet ledger state line (judgment family frame packet (received family packet state).0 ∷ j.more) j.remembered j.says old

    -- the verdict wasn't told
    pub verdict_begun : TransitionsAreThere → (old new : Option (List ℕ)) → AppendsFront old new told_first → HasBegun line HearsIt old new
    verdict_begun law old new written =
        let j = judged family frame packet ledger state message read law in
        begins family frame packet ledger state line (judgment family frame packet (received family packet state).0 ∷ []) j.more j.remembered j.says old new written

pub if_ok : {A E : Type 0} (P Q : A → Type 0) (r : Result A E) → ((x : A) → P x → Q x) → IfOk r P → IfOk r Q
if_ok P Q (Ok x) makes p = makes x p
if_ok P Q (Err e) makes p = tt

-- an error that goes on
pub begun_err : {E : Type 0} (line : Occurrence → List ℕ) (Are : List Occurrence → Ledger → RouterState → Type 0) (r : Result (Unit {0}) E) (ledger' : Ledger) (after : RouterState) (old new : Option (List ℕ))
    → IsErr r → HasBegun line Are old new → Writes line Are ledger' after old new r
begun_err line Are (Ok done) ledger' after old new e p = absurd cc
begun_err line Are (Err fault) ledger' after old new e p = p
