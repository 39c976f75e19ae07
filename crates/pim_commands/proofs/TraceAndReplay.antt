-- A trace and a replay of the same captures lead to the same router.
use Rattle.pim_commands.proofs.Words.{◌≡◌, ◌∙◌, ℕ, Bool, List, [], ◌∷◌, ◌++◌, None, refl, sym, ap, subst, arith}
use Rattle.pim_commands.proofs.Words.{AddressFamily, IsComing, MergeState, RouterState}
use Rattle.pim_capture.specs.Capture.{Answer, EventSeen}
use Rattle.pim_capture.specs.declared.incomplete.RecordPlace.{RecordPlace}
use Rattle.pim_merge.specs.Content.{Content, holds, of_other_family, without_packet, no_record, content_in}
use Rattle.pim_merge.specs.declared.end.End.{End}
use Rattle.pim_merge.specs.Ends.{last_of, end_moment, clock_of}
use Rattle.pim_merge.specs.Laws.{MergeByHasOneEnd}
use Rattle.pim_merge.specs.Merge.{Taken}
use Rattle.pim_router.specs.declared.step.Step.TheVariants.{Echo, Refresh, Reached}
use Rattle.pim_router.specs.Course.{RouterReport, echo, refresh, verdict}
use Rattle.pim_router.specs.Happening.{Happening, Happens}
use Rattle.pim_router.specs.Laws.{RunsPastAreTurns, HappeningGoesOn, HappeningHasOneEnd}
use Rattle.pim_router.specs.Refreshes.{RunsPast}
use Rattle.pim_events.specs.Events.{Occurrence}
use Rattle.pim_trace.specs.Ledger.{Ledger, frame_of}
use Rattle.pim_trace.specs.Passing as trace
use Rattle.pim_trace.specs.Trace as traces
use Rattle.pim_trace.specs.Turn as turns
use Rattle.pim_replay.specs.Events.{Account, Follows}
use Rattle.pim_replay.specs.Passing as replay
use Rattle.pim_replay.specs.Replay as replays
use Rattle.pim_replay.specs.Report as report
use Rattle.pim_replay.specs.Turn as replayed

module _ (merges : MergeByHasOneEnd) (are_turns : RunsPastAreTurns) (goes_on : HappeningGoesOn) (one_end : HappeningHasOneEnd) (family : AddressFamily) where
  -- ---- time

  -- the runs of a replay up to a moment are all turns up to it
  has_happened : (moment : ℕ) (reported : List RouterReport) (state : RouterState) (account : Account) (after : RouterState) → replay.Passes moment reported state account after
      → (happened : List (ℕ × Happening)) × Happens moment state happened after
  unfolding replay.Passes RunsPast
  has_happened moment [] state account after (run, none) =
      let past = are_turns 0 moment state after Reached run in
      (past.reported, record { passes = past.passes; ends = past.ends refl })
  has_happened moment (echo p g w ∷ reported) state account after (between, others, run, is, passes) =
      let past = are_turns 0 moment state between (Echo p g w) run in
      let rest = has_happened moment reported between others after passes in
      (past.reported ++ rest.0, goes_on moment moment state between after past.reported rest.0 (omega arith) past.passes rest.1)
  has_happened moment (refresh ∷ reported) state account after (between, others, run, is, passes) =
      let past = are_turns 0 moment state between Refresh run in
      let rest = has_happened moment reported between others after passes in
      (past.reported ++ rest.0, goes_on moment moment state between after past.reported rest.0 (omega arith) past.passes rest.1)
  has_happened moment (verdict v ∷ reported) state account after passes = absurd passes

  time_same : (moment : ℕ) (ledger ledger' : Ledger) (events : List Occurrence) (account : Account) (state start after other : RouterState)
      → state ≡ start → trace.PassesTime moment ledger state events ledger' after
      → replay.PassesTime moment start account other → after ≡ other
  time_same moment ledger ledger' events account state start after other same one two =
      let happened = has_happened moment two.reported start account other two.passes in
      (one_end moment state after other one.happened happened.0 one.happens (subst (λ s. Happens moment s happened.0 other) (sym same) happened.1)).1

  -- ---- a record

  content_same : (content : Content) (port : ℕ) (frame : RecordPlace) (ledger ledger' : Ledger) (state after : RouterState) (events : List Occurrence)
      → turns.TakesContent family port frame content ledger state events ledger' after → after ≡ (replayed.taken_as family port content state).1
  content_same (holds source destination payload) port frame ledger ledger' state after events takes = takes.after_is
  content_same of_other_family port frame ledger ledger' state after events (said, kept, same) = same
  content_same (without_packet why) port frame ledger ledger' state after events (said, kept, same) = same
  content_same no_record port frame ledger ledger' state after events (said, kept, same) = same

  record_same : (port : ℕ) (reported : EventSeen) (ledger ledger' : Ledger) (state after : RouterState) (events : List Occurrence)
      → turns.TakesRecord family port reported ledger state events ledger' after → after ≡ (replayed.taking family port reported state).1
  record_same port reported ledger ledger' state after events takes =
      content_same (content_in family reported) port (frame_of port ledger) ledger ledger' state after events takes

  -- ---- turns

  turn_same : (this : Taken) (ledger ledger' : Ledger) (events : List Occurrence) (account : Account) (state start after other : RouterState)
      → state ≡ start → turns.WritesTurn family this ledger state events ledger' after
      → replayed.WritesTurn family this start account other → after ≡ other
  turn_same this ledger ledger' events account state start after other same one two =
      let between = time_same this.moment (turns.counting this ledger) one.ledger_then one.way two.first state start one.between two.between same one.passes two.begins in
      record_same this.capture this.reported one.ledger_then ledger' one.between after one.of_record one.takes
      ∙ (ap (λ s. (replayed.taking family this.capture this.reported s).1) between ∙ sym (ap (λ (end : Account × RouterState). end.1) two.goes_on))

  turns_same : (taken : List Taken) (ledger ledger' : Ledger) (events : List Occurrence) (account : Account) (state start after other : RouterState)
      → state ≡ start → traces.WritesTurns family taken ledger state events ledger' after
      → replays.WritesTurns family taken start account other → after ≡ other
  unfolding traces.WritesTurns replays.WritesTurns
  turns_same [] ledger ledger' events account state start after other same (none, kept, is) (none', is') = is ∙ (same ∙ sym is')
  turns_same (first ∷ others) ledger ledger' events account state start after other same (a, b, l, s, begins, more, is) two =
      let between = turn_same first ledger l a two.first state start s two.between same begins two.begins in
      turns_same others l ledger' b two.second s two.between after other between more two.goes_on

  -- ---- the whole

  pub trace_and_report : (shows_via : Bool) (end : End) (merge : MergeState) (captures : List (List Answer)) (state after other : RouterState) (events : List Occurrence) (text : List ℕ)
      → IsComing merge.lanes captures → traces.IsTrace family end merge state events after → report.IsReport family shows_via end merge state other text → after ≡ other
  trace_and_report shows_via end merge captures state after other events text coming this that =
      let taken = this.wrote.taken in
      let one = this.wrote.runs in
      let same = (merges (last_of end) merge.clock captures taken that.wrote.taken None None (this.wrote.are captures coming) (that.wrote.are captures coming)).0 in
      let two =
      subst (λ t. Follows (replays.WritesTurns family t state) (replays.PassesToEnd end (clock_of merge.clock t)) that.account other) (sym same) that.wrote.wrote in
      let between = turns_same taken (traces.ledger_for state) one.ledger_then one.turns two.first state state one.between two.between refl one.wrote two.begins in
      time_same (end_moment end (clock_of merge.clock taken) one.between.machines.moment) one.ledger_then this.ledger one.way two.second one.between two.between after other between one.passes
      (subst (λ s. replay.PassesTime (end_moment end (clock_of merge.clock taken) s.machines.moment) two.between two.second other) (sym between) two.goes_on)
