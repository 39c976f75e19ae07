-- The report of a replay: the lines of its events, then the router's state after the last one. The
-- law `ReportHasOneText` in `Laws.antt` says that the captures determine the report.
use Rattle.std.specs.Prelude.{◌≡◌, ◌⊎◌, ℕ, Bool, List, ◌++◌, Option, Result, Ok, Err}
use Rattle.std.specs.Io.KnownBytes.{Appends}
use Rattle.std.specs.List.{flat_map}
use Rattle.pim_addr.specs.declared.family.AddressFamily.{AddressFamily}
use Rattle.pim_device.specs.Device.{AppendsFront}
use Rattle.pim_merge.specs.declared.end.End.{End}
use Rattle.pim_merge.specs.Next.{MergeState}
use Rattle.pim_merge.specs.Run.{CountsAll, IsTallied}
use Rattle.pim_form.specs.NormalForm.{GroupForm, IsFormOf}
use Rattle.pim_form.specs.Wants.{wants}
use Rattle.pim_router.specs.State.{RouterState}
use Rattle.pim_report.specs.EchoLine.{echo_line}
use Rattle.pim_report.specs.PacketLine.{packet_line}
use Rattle.pim_report.specs.StateText.{text_with}
use Rattle.pim_report.specs.declared.state_text.StateFault.{StateFault}
use Rattle.pim_report.specs.declared.state_text.StateFault.TheVariants as text
use Rattle.pim_replay.specs.declared.event.ReplayEvent.TheVariants.{Packet, Echo}
use Rattle.pim_run.specs.declared.fault.RunFault.{RunFault}
use Rattle.pim_run.specs.declared.fault.RunFault.TheVariants.{Capture, Output, Memory}
use Rattle.pim_replay.specs.Events.{Event, Account, counted}
use Rattle.pim_replay.specs.Replay.{WritesAll, StopsAt, Begins, none_yet}

-- The line of an event.
abbrev pub event_line : AddressFamily → Event → List ℕ
event_line family (Packet moment port source verdict) = packet_line family moment port source verdict
event_line family (Echo moment port group what) = echo_line family moment port group what

-- The lines of events, one after another.
abbrev pub lines_of : AddressFamily → List Event → List ℕ
lines_of family events = flat_map (event_line family) events

-- The report: the lines of the whole replay, then the router's final state with its demand and the
-- counts. If `shows_via` is set, each line of the demand has its upstream neighbour.
pub record IsReport (family : AddressFamily) (shows_via : Bool) (end : End) (merge : MergeState)
    (state after : RouterState) (text : List ℕ) : Type 0 where
  pub account : Account
  pub wrote : WritesAll family end merge state account after
  pub form : List GroupForm
  pub demand : IsFormOf family (wants after.machines) form
  pub text_is : text ≡ lines_of family account.events
      ++ text_with family shows_via after form (counted none_yet account)

-- ---- what a replay returns and writes

-- This text is the report, and `IsWritten` holds for it.
pub record Reports (family : AddressFamily) (shows_via : Bool) (end : End) (merge : MergeState)
    (state after : RouterState) (IsWritten : List ℕ → Type 0) : Type 0 where
  pub text : List ℕ
  pub is_report : IsReport family shows_via end merge state after text
  pub written : IsWritten text

-- A prefix of the report was written. That is, of the lines of some first turns, of all turns and
-- the time after them, or of the whole text.
abbrev pub BeginsReport : AddressFamily → Bool → End → MergeState → RouterState → Option (List ℕ) → Option (List ℕ) →
    Type 0
BeginsReport family shows_via end merge state old new =
    Begins (event_line family) family end merge state old new
    ⊎ (after : RouterState) × Reports family shows_via end merge state after (AppendsFront old new)

-- What `replay_into` returns and writes. At Ok the status is 0 and the whole report was written.
-- After a fault of a capture, the lines of the turns before it were. After any other fault, a
-- prefix of the report was. The tallies of `merge'` count the turns: all at Ok, those before the
-- fault of a capture, or some first ones.
abbrev pub Replays : AddressFamily → Bool → End → MergeState → MergeState → RouterState → RouterState →
    Option (List ℕ) → Option (List ℕ) → Result ℕ RunFault → Type 0
Replays family shows_via end merge merge' state after old new (Ok status) =
    (status ≡ 0) × Reports family shows_via end merge state after (Appends old new) × CountsAll end merge merge'
Replays family shows_via end merge merge' state after old new (Err (Capture reported)) =
    (stop : StopsAt family end merge state merge' reported) × Appends old new (lines_of family stop.account.events)
Replays family shows_via end merge merge' state after old new (Err Output) =
    BeginsReport family shows_via end merge state old new × IsTallied end merge merge'
Replays family shows_via end merge merge' state after old new (Err Memory) =
    BeginsReport family shows_via end merge state old new × IsTallied end merge merge'

-- ---- used by private functions only

-- Why a replay ends when its final state isn't written.
abbrev pub of_text : StateFault → RunFault
of_text text.Output = Output
of_text text.Memory = Memory
