-- The end of a run: the time after the last turn, the state, and the end itself.
use Rattle.pim_trace.proofs.Words.{◌≡◌, ◌∙◌, ℕ, List, [], ◌∷◌, ◌++◌, Option, Err, refl, sym, ap, subst, inl, inr}
use Rattle.pim_trace.proofs.Words.{AddressFamily}
use Rattle.pim_trace.proofs.Words.{End, end_moment, clock_of, Takes, MergeState, CountsAll, IsTallied, EveryStateGoesOn}
use Rattle.pim_trace.proofs.Words.{RouterState, Appends, AppendsFront, Occurrence, RunFault, Capture, Output, Memory}
use Rattle.pim_trace.proofs.Words.{Ledger, PassesTime, HasWritten, HasBegun, HasAll, RunsTurns}
use Rattle.pim_run.specs.declared.fault.TurnFault.{TurnFault}
use Rattle.pim_run.specs.declared.fault.TurnFault.TheVariants as turn
use Rattle.pim_trace.specs.StateTrace.{BeginsRun, IsStateTrace, TracesState, IsClosing, Closes, closing}
use Rattle.pim_trace.specs.Trace.{WritesTurns, WritesAll, IsTrace, ending, ledger_for, HasSome, HasTrace, BeginsTrace, Wrote}
use Rattle.pim_trace.specs.Trace.{WroteFront, Traces}
use Rattle.pim_trace.specs.Underway.{RunsToEnd}
use Rattle.pim_trace.proofs.Underway.{begun_first}
use Rattle.pim_trace.proofs.Pieces.{none_told, all_told, happens_then, told_begun, begun_longer, one_told, one_begun}

module _ (line : Occurrence → List ℕ) (family : AddressFamily) (end : End) (start : MergeState) (state : RouterState)
    (old : Option (List ℕ)) where
  -- nothing was written, since there was no memory for the ledger
  pub nothing_yet : EveryStateGoesOn → HasSome line family end start state old old
  unfolding Takes WritesTurns
  nothing_yet goes_on =
      begun_first goes_on line family end start state old old [] [] (ledger_for state) state
      (λ captures coming. record { clock_then = start.clock; rest = captures; takes_them = (refl, refl); is_rest = tt })
      (refl, refl, refl)
      (all_told line old old [] (none_told line old))

  -- the turns ended the run
  pub turns_end_it : (merge : MergeState) (ledger : Ledger) (now : RouterState) (new : Option (List ℕ)) (fault : RunFault) →
      RunsTurns line family end start state old {A = Unit {0}} merge ledger now new (Err fault)
      → RunsToEnd line family end start state old {A = Unit {0}} merge ledger now new (Err fault)
  turns_end_it merge ledger now new (Capture reported) p = p
  turns_end_it merge ledger now new Output p = inl p
  turns_end_it merge ledger now new Memory p = inl p

  pub counts_all : (merge : MergeState) (ledger : Ledger) (now : RouterState) (new : Option (List ℕ)) →
      HasAll line family end start state old merge ledger now new → CountsAll end start merge
  counts_all merge ledger now new h = record { taken = h.taken; are = h.are; tallies = h.tallies }

  -- ---- the time after the last turn

  module _ (merge : MergeState) (ledger_then : Ledger) (between : RouterState) (new : Option (List ℕ))
      (h : HasAll line family end start state old merge ledger_then between new) (moment : ℕ)
      (is_end : moment ≡ end_moment end merge.clock between.machines.moment) where
    at_end : moment ≡ end_moment end (clock_of start.clock h.taken) between.machines.moment
    at_end = is_end ∙ ap (λ c. end_moment end c between.machines.moment) h.clock

    all_of : (way : List Occurrence) (ledger : Ledger) (after : RouterState) →
        PassesTime moment ledger_then between way ledger after → WritesAll family end start state (h.events ++ way) ledger after
    all_of way ledger after passes = record {
      taken = h.taken;
      are = h.are;
      runs = record {
        turns = h.events;
        ledger_then = ledger_then;
        between = between;
        wrote = h.wrote;
        way = way;
        passes = subst (λ (m : ℕ). PassesTime m ledger_then between way ledger after) at_end passes;
        events_are = refl;
      };
    }

    -- the device failed in it
    pub way_begun : (newer : Option (List ℕ)) → HasBegun line (PassesTime moment ledger_then between) new newer →
        HasBegun line (WritesAll family end start state) old newer
    way_begun newer way = record {
      events = h.events ++ way.events;
      ledger = way.ledger;
      after = way.after;
      are = all_of way.events way.ledger way.after way.are;
      written = told_begun line old new newer h.events way.events h.written way.written;
    }

    -- all of it was written
    pub way_written : (ledger : Ledger) (after : RouterState) (newer : Option (List ℕ)) →
        HasWritten line (PassesTime moment ledger_then between) ledger after new newer
        → HasWritten line (WritesAll family end start state) ledger after old newer
    way_written ledger after newer way = record {
      events = h.events ++ way.events;
      are = all_of way.events ledger after way.are;
      written = happens_then line old new newer h.events way.events h.written way.written;
    }

  -- ---- a trace

  -- the run ended it
  trace_of : (reported : List Occurrence) (ledger : Ledger) (after : RouterState) →
      WritesAll family end start state reported ledger after →
      IsTrace family end start state (reported ++ ending ledger after ∷ []) after
  trace_of reported ledger after wrote = record { reported = reported; ledger = ledger; wrote = wrote; events_are = refl }

  begun : (new : Option (List ℕ)) → BeginsRun line family end start state old new →
      BeginsTrace line family end start state old new
  begun new (inl p) = inl p
  begun new (inr run) = inr (
    run.after,
    record {
      events = run.events ++ ending run.ledger run.after ∷ [];
      is_trace = trace_of run.events run.ledger run.after run.are;
      written = begun_longer line old new run.events (ending run.ledger run.after ∷ []) run.written;
    },
  )

  pub run_ends_trace : (merge : MergeState) (ledger : Ledger) (now after : RouterState) (new : Option (List ℕ))
      (fault : RunFault) → RunsToEnd line family end start state old {A = Unit {0}} merge ledger now new (Err fault)
      → IsTallied end start merge → Traces {A = Unit {0}} line family end start merge state after old new (Err fault)
  run_ends_trace merge ledger now after new (Capture reported) p tallied = p
  run_ends_trace merge ledger now after new Output p tallied = (begun new p, tallied)
  run_ends_trace merge ledger now after new Memory p tallied = (begun new p, tallied)

  -- ---- a trace with the state

  pub run_ends_state : (merge : MergeState) (ledger : Ledger) (now after : RouterState) (new : Option (List ℕ))
      (fault : RunFault) → RunsToEnd line family end start state old {A = Unit {0}} merge ledger now new (Err fault)
      → IsTallied end start merge → TracesState {A = Unit {0}} line family end start merge state after old new (Err fault)
  run_ends_state merge ledger now after new (Capture reported) p tallied = p
  run_ends_state merge ledger now after new Output p tallied = (inl p, tallied)
  run_ends_state merge ledger now after new Memory p tallied = (inl p, tallied)

  module _ (ledger : Ledger) (after : RouterState) (new last : Option (List ℕ))
      (run : HasWritten line (WritesAll family end start state) ledger after old new) where
    -- the whole trace was written
    pub end_told : Appends new last (line (ending ledger after)) →
        HasTrace line family end start state after (Wrote line old last)
    end_told p = record {
      events = run.events ++ ending ledger after ∷ [];
      is_trace = trace_of run.events ledger after run.are;
      written = happens_then line old new last run.events (ending ledger after ∷ []) run.written
          (one_told line new last (ending ledger after) p);
    }

    -- the device failed at the end of the run
    pub end_begun : AppendsFront new last (line (ending ledger after)) →
        (final : RouterState) × HasTrace line family end start state final (WroteFront line old last)
    end_begun p = (
      after,
      record {
        events = run.events ++ ending ledger after ∷ [];
        is_trace = trace_of run.events ledger after run.are;
        written = told_begun line old new last run.events (ending ledger after ∷ []) run.written
            (one_begun line new last (ending ledger after) p);
      },
    )

    -- the whole trace was written, with the state
    pub state_written : IsClosing line family ledger after (Appends new last) →
        (now : Ledger) × HasWritten line (IsStateTrace family end start state) now after old last
    state_written c = (
      ledger,
      record {
        events = run.events ++ closing family ledger after c.form;
        are = record { reported = run.events; wrote = run.are; form = c.form; demand = c.demand; events_are = refl };
        written = happens_then line old new last run.events (closing family ledger after c.form) run.written c.written;
      },
    )

    -- the device failed at the state, or at the end
    state_begun : IsClosing line family ledger after (AppendsFront new last) →
        HasBegun line (IsStateTrace family end start state) old last
    state_begun c = record {
      events = run.events ++ closing family ledger after c.form;
      ledger = ledger;
      after = after;
      are = record { reported = run.events; wrote = run.are; form = c.form; demand = c.demand; events_are = refl };
      written = told_begun line old new last run.events (closing family ledger after c.form) run.written c.written;
    }

    pub state_failed : (fault : TurnFault) → fault ≡ turn.Output →
        Closes {A = Unit {0}} line family ledger after new last (Err fault) →
        HasBegun line (IsStateTrace family end start state) old last
    state_failed fault is closes = state_begun
        (subst (λ (f : TurnFault). Closes {A = Unit {0}} line family ledger after new last (Err f)) is closes)

    -- there was no memory for the form
    pub state_refused : (fault : TurnFault) → fault ≡ turn.Memory →
        Closes {A = Unit {0}} line family ledger after new last (Err fault) → BeginsRun line family end start state old last
    state_refused fault is closes =
        let same : last ≡ new = subst (λ (f : TurnFault). Closes {A = Unit {0}} line family ledger after new last (Err f)) is
        closes in
        inr (subst (λ (n : Option (List ℕ)). HasBegun line (WritesAll family end start state) old n) (sym same) (record {
          events = run.events;
          ledger = ledger;
          after = after;
          are = run.are;
          written = all_told line old new run.events run.written;
        }))
