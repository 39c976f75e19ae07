-- The events of a packet that a port receives lead each machine from what is known of it before to what is known after.
use Rattle.std.proofs.Common.{◌≡◌, ◌∙◌, ℕ, List, [], ◌∷◌, ◌++◌, map, length, slice_index_or, Option, None, Some, refl}
use Rattle.pim_trace.proofs.Words.{sym, ap, subst, map-append, AddressFamily, judged, Content, hello, join_prune, other, content}
use Rattle.pim_trace.proofs.Words.{FrameFault, Parameters, JpFault, Message, message_of, Record, events_of, start_of, rp_of}
use Rattle.pim_trace.proofs.Words.{KeysAreDistinct, HearingKeepsTheOrder, HearingLeavesOtherPorts, IsAscending, Verdict, Packet}
use Rattle.pim_trace.proofs.Words.{received, body_causes, message_causes, body_heard, neighbours_on, timing_on, RouterState}
use Rattle.pim_trace.proofs.Words.{Happened, Occurrence, Transition, AreTransitions, event_on, greeting, judgment, all_ignored}
use Rattle.pim_trace.proofs.Words.{changes_of, restarts, as_cause, after_own, message_says, applied_says, says, remembers}
use Rattle.pim_trace.proofs.Words.{records_after, AreChangesOf, HearsPacket, Ledger, with_changes, message_by, read_by}
use Rattle.pim_trace.proofs.Words.{packet_read, message_in, hello_read, message_read, RecordPlace}
use Rattle.pim_jp.specs.Faults.{faults as join_prune_faults}
use Rattle.pim_router.specs.declared.verdict.Verdict.TheVariants as verdict
use Rattle.pim_router.specs.declared.verdict.Malformed.TheVariants as malformed
use Rattle.pim_trace.proofs.Folding.{Quiet, AllQuiet, Place, place, LeadsAll, all_on, all_quiet}
use Rattle.pim_trace.proofs.FoldedHearing.{changes_lead, quiet_ignored, quiet_restarts}
use Rattle.pim_trace.proofs.Verdicts.{by_causes, reads_as, applied_leaves, packet_moment}

-- ---- packets that are not applied leave the machines

parts_nil : {A : Type 0} (xs ys : List A) → xs ++ ys ≡ [] → xs ≡ []
parts_nil [] ys e = refl
parts_nil (x ∷ xs) ys e = absurd cc

unmapped_nil : {A B : Type 0} (f : A → B) (xs : List A) → map f xs ≡ [] → xs ≡ []
unmapped_nil f [] e = refl
unmapped_nil f (x ∷ xs) e = absurd cc

some_none : (message : Message) → ◌≡◌ {A = Option Message} (Some message) None → ⊥
some_none message e = cc

module _ (family : AddressFamily) (packet : Packet) (state : RouterState) where
  -- a body that reads as a message is read
  message_reads : {faults : List FrameFault} → faults ≡ [] → (body : List ℕ) →
      body_causes family packet.port packet.source state (join_prune body) ≡ [] →
      message_in (read_by family (judged faults (join_prune body))) ≡ Some (message_of family body)
  message_reads {faults = faults} none body bodies =
      let no_faults =
      unmapped_nil (λ (fault : JpFault). verdict.Malformed (malformed.JoinPrune fault))
      (join_prune_faults family body)
      (parts_nil
      (map (λ (fault : JpFault). verdict.Malformed (malformed.JoinPrune fault)) (join_prune_faults family body))
      (message_causes family packet.port packet.source state (message_of family body)) bodies) in
      ap (λ fs. message_in (read_by family (judged fs (join_prune body)))) none
      ∙ ap (λ fs. message_in (message_by (judged fs (message_of family body)))) no_faults

  -- no message was applied: the machines stay
  stays : ((received family packet state).0 ≡ verdict.Applied → message_read family packet ≡ None) →
      (received family packet state).1.machines.records ≡ state.machines.records
  stays =
      by_causes family state packet
      (λ (end : Verdict × RouterState). (end.0 ≡ verdict.Applied → message_read family packet ≡ None) →
      end.1.machines.records ≡ state.machines.records)
      (λ v e never. refl) (λ frames bodies never. by frames (content packet.bytes) bodies never)
    where
      by : {faults : List FrameFault} → faults ≡ [] → (body : Content) →
          body_causes family packet.port packet.source state body ≡ [] →
          ((body_heard family packet.port packet.source state body).0 ≡ verdict.Applied →
          message_in (read_by family (judged faults body)) ≡ None) →
          (body_heard family packet.port packet.source state body).1.machines.records ≡ state.machines.records
      by none (other type) bodies never = refl
      by none (hello body) bodies never = refl
      by none (join_prune body) bodies never =
          absurd (some_none (message_of family body) (sym (message_reads none body bodies) ∙ never refl))

-- ---- the events of a packet

module _ (apart : KeysAreDistinct) (keeps : HearingKeepsTheOrder) (leaves : HearingLeavesOtherPorts)
    (family : AddressFamily) (frame : RecordPlace) (packet : Packet) (ledger : Ledger) (state : RouterState)
    (up : IsAscending state.machines.records) where
  abbrev end : Verdict × RouterState
  end = received family packet state

  abbrev events_of_all : List Happened → List Occurrence
  events_of_all whats = map (event_on ledger state.machines.moment packet.port) whats

  -- The events of a packet lead on, where this is remembered afterwards.
  abbrev LeadTo : List Happened → Ledger → Type 0
  LeadTo whats ledger' = LeadsAll (place ledger state) (events_of_all whats) (place ledger' end.1)

  quietly : (end.0 ≡ verdict.Applied → message_read family packet ≡ None) → (whats : List Happened) →
      AllQuiet whats → (ledger' : Ledger) → ledger'.causes ≡ ledger.causes → LeadTo whats ledger'
  quietly unapplied whats quiet ledger' same =
      let moment = packet_moment family packet state in let records = stays family packet state unapplied in
      subst (λ (at : Place). LeadsAll (place ledger state) (events_of_all whats) at)
      (λ i. record { ms = sym moment i; records = sym records i; causes = sym same i })
      (all_quiet (place ledger state) ledger state.machines.moment packet.port whats up quiet)

  abbrev applied_whats : Message → List (Transition (List ℕ)) → List Happened
  applied_whats message changes =
      judgment family frame packet verdict.Applied
      ∷ message_says family frame packet state ledger message.sets changes

  abbrev changed_by : List (Transition (List ℕ)) → Ledger
  changed_by changes = with_changes (as_cause frame packet state) changes ledger

  heard_lead : (message : Message) (changes : List (Transition (List ℕ))) →
      AreTransitions packet.port (start_of message.holdtime (timing_on packet.port state))
      (events_of (rp_of family state.routes) message) state.machines.records
      (records_after family packet.port state message) changes →
      LeadsAll (place ledger state) (events_of_all (applied_whats message changes))
      (record {
        ms = state.machines.moment;
        records = records_after family packet.port state message;
        causes = (changed_by changes).causes;
      })
  heard_lead message changes are =
      let ignored = all_ignored frame packet.source (rp_of family state.routes) message.sets in
      let first = judgment family frame packet verdict.Applied ∷ ignored in
      let neighbours = length (neighbours_on packet.port state).entries in
      let changed = changes_of ledger (as_cause frame packet state) neighbours changes in
      let last : Place = record {
        ms = state.machines.moment;
        records = records_after family packet.port state message;
        causes = (changed_by changes).causes;
      } in
      subst (λ (es : List Occurrence). LeadsAll (place ledger state) es last)
      (sym (map-append (event_on ledger state.machines.moment packet.port) first changed))
      (all_on (place ledger state) (place ledger state) last (events_of_all first) (events_of_all changed)
      (all_quiet (place ledger state) ledger state.machines.moment packet.port first up
      ((λ key port. refl), quiet_ignored frame packet.source (rp_of family state.routes) message.sets))
      (changes_lead apart packet.port frame packet.source state.machines.moment neighbours leaves keeps
      (start_of message.holdtime (timing_on packet.port state))
      (events_of (rp_of family state.routes) message) state.machines.records up changes are ledger ledger))

  abbrev Are : Verdict → Option Message → List (Transition (List ℕ)) → Type 0
  Are v message changes = AreChangesOf family packet state end.1 v message changes

  applied_lead : end.0 ≡ verdict.Applied → (message : Option Message) → message_read family packet ≡ message →
      (changes : List (Transition (List ℕ))) → Are verdict.Applied message changes →
      LeadTo
      (judgment family frame packet verdict.Applied ∷ applied_says family frame packet state ledger message changes)
      (changed_by changes)
  unfolding with_changes
  applied_lead is None read changes are =
      quietly (λ applied. read) (judgment family frame packet verdict.Applied ∷ []) ((λ key port. refl), tt)
      (changed_by changes) (ap (λ items. (changed_by items).causes) are)
  applied_lead is (Some message) read changes are =
      let left = applied_leaves family packet state message (reads_as (packet_read family packet) message read) is in
      let records : end.1.machines.records ≡ records_after family packet.port state message =
      ap (λ (s : RouterState). s.machines.records) left in
      let moment = packet_moment family packet state in
      subst
      (λ (at : Place). LeadsAll (place ledger state) (events_of_all (applied_whats message changes)) at)
      (λ i. record { ms = sym moment i; records = sym records i; causes = (changed_by changes).causes })
      (heard_lead message changes
      (subst (λ (rs : List (Record (List ℕ))).
      AreTransitions packet.port (start_of message.holdtime (timing_on packet.port state))
      (events_of (rp_of family state.routes) message) state.machines.records rs changes) records are))

  -- another verdict than `Applied`
  alone : (v : Verdict) → end.0 ≡ v → (v ≡ verdict.Applied → ⊥) → (what : Happened) → Quiet what →
      (ledger' : Ledger) → ledger'.causes ≡ ledger.causes → LeadTo (what ∷ []) ledger'
  alone v is never what quiet ledger' same =
      quietly (λ applied. absurd (never (sym is ∙ applied))) (what ∷ []) (quiet, tt) ledger' same

  own_causes : (said : Option Parameters) → (after_own packet.port said ledger).causes ≡ ledger.causes
  own_causes None = refl
  own_causes (Some said) = refl

  says_lead : (v : Verdict) → end.0 ≡ v → (changes : List (Transition (List ℕ))) →
      Are v (message_read family packet) changes →
      LeadTo (says family frame packet state ledger v changes) (remembers family frame packet state ledger v changes)
  says_lead verdict.Mine is changes are =
      let restarted = restarts frame (slice_index_or ledger.own packet.port None) (hello_read family packet) in
      quietly (λ applied. absurd (never_mine (sym is ∙ applied)))
      (judgment family frame packet verdict.Mine ∷ restarted) (
        (λ key port. refl),
        quiet_restarts frame (slice_index_or ledger.own packet.port None)
            (hello_read family packet),
      ) (after_own packet.port (hello_read family packet) ledger) (own_causes (hello_read family packet))
    where
      never_mine : verdict.Mine ≡ verdict.Applied → ⊥
      never_mine e = cc
  says_lead (verdict.Malformed fault) is changes are =
      alone (verdict.Malformed fault) is (λ e. cc) (judgment family frame packet (verdict.Malformed fault))
      (λ key port. refl) ledger refl
  says_lead (verdict.OtherType type) is changes are =
      alone (verdict.OtherType type) is (λ e. cc) (judgment family frame packet (verdict.OtherType type))
      (λ key port. refl) ledger refl
  says_lead (verdict.HelloTaken heard) is changes are =
      alone (verdict.HelloTaken heard) is (λ e. cc) (greeting family frame packet state heard) (λ key port. refl)
      (remembers family frame packet state ledger (verdict.HelloTaken heard) changes) refl
  says_lead verdict.UnknownNeighbour is changes are =
      alone verdict.UnknownNeighbour is (λ e. cc) (judgment family frame packet verdict.UnknownNeighbour)
      (λ key port. refl) ledger refl
  says_lead verdict.NotForUs is changes are =
      alone verdict.NotForUs is (λ e. cc) (judgment family frame packet verdict.NotForUs) (λ key port. refl) ledger
      refl
  says_lead (verdict.Full full) is changes are =
      alone (verdict.Full full) is (λ e. cc) (judgment family frame packet (verdict.Full full)) (λ key port. refl)
      ledger refl
  says_lead verdict.Applied is changes are = applied_lead is (message_read family packet) refl changes are

  pub packet_leads : (events : List Occurrence) (ledger' : Ledger) (after : RouterState) →
      HearsPacket family frame packet ledger state events ledger' after →
      LeadsAll (place ledger state) events (place ledger' after)
  packet_leads events ledger' after h =
      let same : end.1 ≡ after = sym h.after_is in
      subst (λ (s : RouterState). LeadsAll (place ledger state) events (place ledger' s)) same
      (subst (λ (l : Ledger). LeadsAll (place ledger state) events (place l end.1)) (sym h.ledger_is)
      (subst
      (λ (es : List Occurrence).
      LeadsAll (place ledger state) es
      (place (remembers family frame packet state ledger end.0 h.changes) end.1)) (sym h.events_are)
      (says_lead end.0 refl h.changes
      (subst
      (λ (s : RouterState). AreChangesOf family packet state s end.0 (message_read family packet) h.changes)
      h.after_is h.are))))
