-- Laws on two commands. Each is proved, as the `ensures` of a function of `src/laws.rt`.
use Rattle.std.specs.Prelude.{◌≡◌, ℕ, Bool, List, Option}
use Rattle.std.specs.List.{flat_map}
use Rattle.pim_addr.specs.declared.family.AddressFamily.{AddressFamily}
use Rattle.pim_capture.specs.Capture.{Answer}
use Rattle.pim_merge.specs.declared.end.End.{End}
use Rattle.pim_merge.specs.Lane.{IsComing}
use Rattle.pim_merge.specs.Next.{MergeState}
use Rattle.pim_down.specs.declared.machines.key.What.TheVariants.{Star, Source}
use Rattle.pim_form.specs.NormalForm.{GroupForm, IsFormOf}
use Rattle.pim_form.specs.Wants.{wants}
use Rattle.pim_router.specs.State.{RouterState}
use Rattle.pim_report.specs.DemandText.{want_line, exception_line, demand_text}
use Rattle.pim_events.specs.declared.event.WantedEntry.{WantedEntry}
use Rattle.pim_events.specs.declared.event.WantedWhat.{WantedWhat}
use Rattle.pim_events.specs.declared.event.WantedWhat.TheVariants as wanted
use Rattle.pim_events.specs.Events.{Occurrence}
use Rattle.pim_trace.specs.Ledger.{Ledger}
use Rattle.pim_trace.specs.StateLaws.{records_in, entries_in}
use Rattle.pim_trace.specs.StateTrace.{IsStateTrace}
use Rattle.pim_trace.specs.Trace.{IsTrace}
use Rattle.pim_replay.specs.Report.{IsReport}

-- A trace ends with the router whose state the report of a replay has, for the same captures and
-- the same end of the run.
abbrev pub TraceEndsAsReplay : Type 0
TraceEndsAsReplay = (family : AddressFamily) (shows_via : Bool) (end : End) (merge : MergeState)
    (captures : List (List Answer)) (state after other : RouterState) (events : List Occurrence) (text : List ℕ) →
    IsComing merge.lanes captures → IsTrace family end merge state events after →
    IsReport family shows_via end merge state other text → after ≡ other

-- ---- the state at the end of a trace

module _ (family : AddressFamily) (shows_via : Bool) where
  -- The line by which a report of a replay shows this, which is wanted of a group.
  abbrev pub line_of : List ℕ → Option (List ℕ) → WantedWhat (List ℕ) → List ℕ
  line_of group via wanted.Star = want_line family shows_via group Star via
  line_of group via (wanted.Source source) = want_line family shows_via group (Source source) via
  line_of group via (wanted.Except source) = exception_line family shows_via group via source

  -- The lines of all that is wanted.
  abbrev pub lines_of : List (WantedEntry (List ℕ)) → List ℕ
  lines_of entries = flat_map (λ (entry : WantedEntry (List ℕ)). line_of entry.group entry.via entry.what) entries

-- Events list the records of this router, and the lines of its demand.
pub record ListsAsReplay (family : AddressFamily) (shows_via : Bool) (events : List Occurrence) (state : RouterState) : Type 0 where
  pub records : records_in events ≡ state.machines.records
  pub form : List GroupForm
  pub demand : IsFormOf family (wants state.machines) form
  pub lines : lines_of family shows_via (entries_in events) ≡ demand_text family shows_via state.routes form

-- A trace with the state lists exactly the records and the demand that the report of a replay has,
-- for the same captures and the same end of the run.
abbrev pub StateListsWhatReplayPrints : Type 0
StateListsWhatReplayPrints = (family : AddressFamily) (shows_via : Bool) (end : End) (merge : MergeState)
    (captures : List (List Answer)) (state after other : RouterState) (events : List Occurrence) (ledger : Ledger) (text : List ℕ) →
    IsComing merge.lanes captures → IsStateTrace family end merge state events ledger after →
    IsReport family shows_via end merge state other text → ListsAsReplay family shows_via events other
