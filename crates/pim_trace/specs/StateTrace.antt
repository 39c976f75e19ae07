-- A trace that reports the state at the end of its run: its events are those of a trace, with the
-- events of the state before the end.
use Rattle.std.specs.Prelude.{◌≡◌, ◌⊎◌, ℕ, List, [], ◌∷◌, ◌++◌, Option, Result, Ok, Err}
use Rattle.std.specs.Io.KnownBytes.{Appends}
use Rattle.std.specs.List.{flat_map}
use Rattle.pim_device.specs.Device.{AppendsFront}
use Rattle.pim_addr.specs.declared.family.AddressFamily.{AddressFamily}
use Rattle.pim_merge.specs.declared.end.End.{End}
use Rattle.pim_merge.specs.Next.{MergeState}
use Rattle.pim_merge.specs.Run.{CountsAll, IsTallied}
use Rattle.pim_form.specs.NormalForm.{GroupForm, IsFormOf}
use Rattle.pim_form.specs.Wants.{wants}
use Rattle.pim_router.specs.State.{RouterState}
use Rattle.pim_events.specs.Events.{Occurrence}
use Rattle.pim_run.specs.declared.fault.RunFault.{RunFault}
use Rattle.pim_run.specs.declared.fault.RunFault.TheVariants.{Capture, Output, Memory}
use Rattle.pim_run.specs.declared.fault.TurnFault.{TurnFault}
use Rattle.pim_run.specs.declared.fault.TurnFault.TheVariants as turn
use Rattle.pim_trace.specs.Ledger.{Ledger}
use Rattle.pim_trace.specs.StateEvents.{state_events}
use Rattle.pim_trace.specs.Trace.{WritesAll, HasSome, StopsAt, ending}
use Rattle.pim_trace.specs.WrittenEvents.{HasWritten, HasBegun}

-- The events of the state, where this is the normal form of the demand, then the end of the run.
abbrev pub closing : AddressFamily → Ledger → RouterState → List GroupForm → List Occurrence
closing family ledger state form = state_events family ledger state form ++ ending ledger state ∷ []

-- The events of a whole trace with the state: those of all turns and of the time up to the end of
-- the run, those of the state then, and the end itself.
pub record IsStateTrace (family : AddressFamily) (end : End) (merge : MergeState) (state : RouterState)
    (events : List Occurrence) (ledger : Ledger) (after : RouterState) : Type 0 where
  pub reported : List Occurrence
  pub wrote : WritesAll family end merge state reported ledger after
  pub form : List GroupForm
  pub demand : IsFormOf family (wants after.machines) form
  pub events_are : events ≡ reported ++ closing family ledger after form

-- ---- what is returned and written, where `line` is what is written of an event

module _ (line : Occurrence → List ℕ) (family : AddressFamily) (end : End) (merge : MergeState)
    (state : RouterState) (old new : Option (List ℕ)) where
  -- A front was written of the events of some first turns, or of those of all turns and of the time
  -- up to the end of the run.
  abbrev pub BeginsRun : Type 0
  BeginsRun = HasSome line family end merge state old new ⊎ HasBegun line (WritesAll family end merge state) old new

  -- A front of the trace was written.
  abbrev pub BeginsStateTrace : Type 0
  BeginsStateTrace = BeginsRun ⊎ HasBegun line (IsStateTrace family end merge state) old new

-- What `trace_state_into` returns and writes. It is as `Traces` says, where a whole trace has the
-- events of the state.
abbrev pub TracesState : {A : Type 0} → (Occurrence → List ℕ) → AddressFamily → End → MergeState → MergeState →
    RouterState → RouterState → Option (List ℕ) → Option (List ℕ) → Result A RunFault → Type 0
TracesState line family end merge merge' state after old new (Ok done) =
    ((ledger : Ledger) × HasWritten line (IsStateTrace family end merge state) ledger after old new)
    × CountsAll end merge merge'
TracesState line family end merge merge' state after old new (Err (Capture reported)) =
    StopsAt line family end merge state merge' reported old new
TracesState line family end merge merge' state after old new (Err Output) =
    BeginsStateTrace line family end merge state old new × IsTallied end merge merge'
TracesState line family end merge merge' state after old new (Err Memory) =
    BeginsStateTrace line family end merge state old new × IsTallied end merge merge'

-- ---- used by private functions only

-- `IsWritten` holds for what is written of the state and of the end of the run.
pub record IsClosing (line : Occurrence → List ℕ) (family : AddressFamily) (ledger : Ledger) (state : RouterState)
    (IsWritten : List ℕ → Type 0) : Type 0 where
  pub form : List GroupForm
  pub demand : IsFormOf family (wants state.machines) form
  pub written : IsWritten (flat_map line (closing family ledger state form))

-- What is written of the state and of the end: all, or a front if the device fails, or nothing if
-- memory is refused.
abbrev pub Closes : {A : Type 0} → (Occurrence → List ℕ) → AddressFamily → Ledger → RouterState →
    Option (List ℕ) → Option (List ℕ) → Result A TurnFault → Type 0
Closes line family ledger state old new (Ok done) = IsClosing line family ledger state (Appends old new)
Closes line family ledger state old new (Err turn.Output) = IsClosing line family ledger state (AppendsFront old new)
Closes line family ledger state old new (Err turn.Memory) = new ≡ old
