-- The events of a turn, of all turns and of a whole trace lead each machine on. Its laws follow.
use Rattle.pim_trace.proofs.Words.{◌≡◌, ℕ, List, [], ◌∷◌, refl, sym, subst, AddressFamily, End, end_moment, clock_of, Taken}
use Rattle.pim_trace.proofs.Words.{MergeState, KeysAreDistinct, FiringSaysMore, HearingKeepsTheOrder, HearingLeavesOtherPorts}
use Rattle.pim_trace.proofs.Words.{IsAscending, RouterState, NoPacket, OtherFamily, Skipping, Occurrence, record_skipped}
use Rattle.pim_trace.proofs.Words.{TraceNamesCauses, TurnsNameCauses, RunsNameCauses, EventsShowTheState, TurnsShowTheState}
use Rattle.pim_trace.proofs.Words.{RunsLeadOn, Ledger, frame_of, with_skip, PassesTime, WritesTurns, RunsUntil, IsTrace, ending}
use Rattle.pim_trace.proofs.Words.{ledger_for, packet_on, Skips, TakesContent, counting, WritesTurn, RecordPlace}
use Rattle.pim_merge.specs.Content.{Content, holds, of_other_family, without_packet, no_record, content_in}
use Rattle.pim_trace.proofs.Caused.{leading, naming}
use Rattle.pim_trace.proofs.Folding.{leads_nowhere, leads_past, Place, place, known_at, LeadsAll, all_nowhere, all_on}
use Rattle.pim_trace.proofs.Folding.{all_quiet}
use Rattle.pim_trace.proofs.FoldedPacket.{packet_leads}
use Rattle.pim_trace.proofs.FoldedTime.{passing_leads}

-- The laws of the crates below.
pub record Given : Type 0 where
  pub apart : KeysAreDistinct
  pub says_more : FiringSaysMore
  pub keeps : HearingKeepsTheOrder
  pub leaves : HearingLeavesOtherPorts

module _ (given : Given) (family : AddressFamily) where
  -- ---- a turn

  abbrev pub LeadOn' : Ledger → RouterState → List Occurrence → Ledger → RouterState → Type 0
  LeadOn' ledger state events ledger' after = LeadsAll (place ledger state) events (place ledger' after)

  -- nothing is known otherwise
  same_place : (ledger ledger' : Ledger) (state after : RouterState) (events : List Occurrence) → ledger' ≡ ledger →
      after ≡ state → LeadOn' ledger state events ledger state → LeadOn' ledger state events ledger' after
  same_place ledger ledger' state after events l s leads =
      subst (λ (at : Place). LeadsAll (place ledger state) events at) (λ i. place (sym l i) (sym s i)) leads

  skip_leads : (port : ℕ) (skipping : Skipping) (ledger ledger' : Ledger) (state after : RouterState)
      (events : List Occurrence) → IsAscending state.machines.records →
      Skips port skipping ledger state events ledger' after → LeadOn' ledger state events ledger' after
  skip_leads port skipping ledger ledger' state after events up takes =
      subst (λ (l : Ledger). LeadOn' ledger state events l after) (sym takes.1)
      (subst (λ (s : RouterState). LeadOn' ledger state events (with_skip skipping.why ledger) s) (sym takes.2)
      (subst (λ (es : List Occurrence). LeadOn' ledger state es ledger state) (sym takes.0)
      (all_quiet (place ledger state) ledger state.machines.moment port (record_skipped skipping ∷ []) up
      ((λ key on. refl), tt))))

  content_leads : (port : ℕ) (frame : RecordPlace) (content : Content) (ledger ledger' : Ledger) (state after : RouterState)
      (events : List Occurrence) → IsAscending state.machines.records →
      TakesContent family port frame content ledger state events ledger' after →
      LeadOn' ledger state events ledger' after
  content_leads port frame (holds source destination payload) ledger ledger' state after events up takes =
      packet_leads given.apart given.keeps given.leaves family frame (packet_on port source destination payload)
      ledger state up events ledger' after takes
  content_leads port frame of_other_family ledger ledger' state after events up takes =
      skip_leads port (record { frame = frame; why = OtherFamily }) ledger ledger' state after events up takes
  content_leads port frame (without_packet why) ledger ledger' state after events up takes =
      skip_leads port (record { frame = frame; why = NoPacket why }) ledger ledger' state after events up takes
  content_leads port frame no_record ledger ledger' state after events up takes =
      same_place ledger ledger' state after events takes.1 takes.2
      (subst (λ (es : List Occurrence). LeadOn' ledger state es ledger state) (sym takes.0)
      (all_nowhere (place ledger state) up))

  time_leads : (moment : ℕ) (ledger ledger' : Ledger) (state after : RouterState) (events : List Occurrence) →
      IsAscending state.machines.records → PassesTime moment ledger state events ledger' after →
      LeadOn' ledger state events ledger' after
  time_leads moment ledger ledger' state after events up passes =
      passing_leads given.apart given.says_more moment ledger ledger' state after events up passes

  one_leads : (turn : Taken) (ledger ledger' : Ledger) (state after : RouterState) (events : List Occurrence) →
      IsAscending state.machines.records → WritesTurn family turn ledger state events ledger' after →
      LeadOn' ledger state events ledger' after
  one_leads turn ledger ledger' state after events up t =
      let way = time_leads turn.moment (counting turn ledger) t.ledger_then state t.between t.way up t.passes in
      let of_record =
      content_leads turn.capture (frame_of turn.capture t.ledger_then) (content_in family turn.reported) t.ledger_then
      ledger' t.between after t.of_record way.ascending t.takes in
      subst (λ (es : List Occurrence). LeadOn' ledger state es ledger' after) (sym t.events_are)
      (all_on (place ledger state) (place t.ledger_then t.between) (place ledger' after) t.way t.of_record way of_record)

  -- ---- all turns, and the end

  pub turns_lead : (turns : List Taken) (ledger ledger' : Ledger) (state after : RouterState)
      (events : List Occurrence) → IsAscending state.machines.records →
      WritesTurns family turns ledger state events ledger' after → LeadOn' ledger state events ledger' after
  unfolding WritesTurns
  turns_lead [] ledger ledger' state after events up t =
      same_place ledger ledger' state after events t.1 t.2
      (subst (λ (es : List Occurrence). LeadOn' ledger state es ledger state) (sym t.0)
      (all_nowhere (place ledger state) up))
  turns_lead (turn ∷ turns) ledger ledger' state after events up (one, more, then, between, first, others, are) =
      let leads = one_leads turn ledger then state between one up first in
      subst (λ (es : List Occurrence). LeadOn' ledger state es ledger' after) (sym are)
      (all_on (place ledger state) (place then between) (place ledger' after) one more leads
      (turns_lead turns then ledger' between after more leads.ascending others))

  -- turns, and the time after them
  pub run_leads : (taken : List Taken) (until : ℕ → ℕ) (state after : RouterState) (events : List Occurrence)
      (ledger : Ledger) → IsAscending state.machines.records →
      RunsUntil until family state taken events ledger after →
      LeadOn' (ledger_for state) state events ledger after
  run_leads taken until state after events ledger up r =
      let first = ledger_for state in
      let turns = turns_lead taken first r.ledger_then state r.between r.turns up r.wrote in
      let moment = until r.between.machines.moment in
      let way = time_leads moment r.ledger_then ledger r.between after r.way turns.ascending r.passes in
      subst (λ (es : List Occurrence). LeadOn' first state es ledger after) (sym r.events_are)
      (all_on (place first state) (place r.ledger_then r.between) (place ledger after) r.turns r.way turns way)

  module _ (end : End) (merge : MergeState) (state : RouterState) (up : IsAscending state.machines.records) where
    abbrev first : Ledger
    first = ledger_for state

    -- the end of the run tells nothing of machines
    ending_leads : (ledger : Ledger) (after : RouterState) → IsAscending after.machines.records →
        LeadOn' ledger after (ending ledger after ∷ []) ledger after
    ending_leads ledger after high = record {
      ascending = high;
      each = λ key.
          let held = known_at key (place ledger after) in
          leads_past key held held (ending ledger after) [] refl (leads_nowhere key held);
    }

    pub trace_leads : (events : List Occurrence) (after : RouterState) →
        (t : IsTrace family end merge state events after) → LeadOn' first state events t.ledger after
    trace_leads events after t =
        let until = end_moment end (clock_of merge.clock t.wrote.taken) in
        let reported = run_leads t.wrote.taken until state after t.reported t.ledger up t.wrote.runs in
        subst (λ (es : List Occurrence). LeadOn' first state es t.ledger after) (sym t.events_are)
        (all_on (place first state) (place t.ledger after) (place t.ledger after) t.reported
        (ending t.ledger after ∷ []) reported (ending_leads t.ledger after reported.ascending))

pub events_tell : Given → EventsShowTheState
events_tell given family end merge state events after up is =
    leading (ledger_for state) is.ledger state after events (trace_leads given family end merge state up events after is)

pub turns_tell : Given → TurnsShowTheState
turns_tell given family turns ledger state events ledger' after up wrote =
    leading ledger ledger' state after events (turns_lead given family turns ledger ledger' state after events up wrote)

pub runs_lead : Given → RunsLeadOn
runs_lead given family turns until state events ledger after up runs =
    leading (ledger_for state) ledger state after events (run_leads given family turns until state after events ledger up runs)

pub trace_names : Given → TraceNamesCauses
trace_names given family end merge state events after up is =
    naming given.apart state is.ledger after events (trace_leads given family end merge state up events after is)

pub turns_name : Given → TurnsNameCauses
turns_name given family turns state events ledger after up wrote =
    naming given.apart state ledger after events
    (turns_lead given family turns (ledger_for state) ledger state after events up wrote)

pub runs_name : Given → RunsNameCauses
runs_name given family turns until state events ledger after up runs =
    naming given.apart state ledger after events
    (run_leads given family turns until state after events ledger up runs)
