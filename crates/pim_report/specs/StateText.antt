-- The end of a report: the state of a router.
use Rattle.std.specs.Prelude.{ℕ, ◌+◌, min, Bool, List, ◌++◌, Option, Result, Ok, Err, codes, decimal}
use Rattle.std.specs.List.{flat_map}
use Rattle.std.specs.Io.KnownBytes.{Appends, Keeps}
use Rattle.pim_device.specs.Device.{AppendsFront, top_count}
use Rattle.pim_addr.specs.declared.family.AddressFamily.{AddressFamily}
use Rattle.pim_addr.specs.Routes.{RouteTable}
use Rattle.pim_down.specs.Time.{Downstream}
use Rattle.pim_form.specs.NormalForm.{GroupForm, IsFormOf}
use Rattle.pim_form.specs.Wants.{wants}
use Rattle.pim_router.specs.State.{RouterState}
use Rattle.pim_report.specs.declared.state_text.Counts.{Counts}
use Rattle.pim_report.specs.declared.state_text.StateFault.{StateFault}
use Rattle.pim_report.specs.declared.state_text.StateFault.TheVariants.{Output, Memory}
use Rattle.pim_lines.specs.Pieces.{line}
use Rattle.pim_report.specs.RecordLine.{record_line}
use Rattle.pim_report.specs.DemandText.{demand_text}

-- The line of the state's moment, in milliseconds.
abbrev pub moment_line : ℕ → List ℕ
moment_line moment = line (codes "state at " ++ decimal moment)

-- The line of the counts: skipped records and Refreshes.
abbrev pub counts_line : Counts → List ℕ
counts_line counts =
    line (codes "skipped " ++ decimal counts.skipped ++ codes " refreshes " ++ decimal counts.refreshes)

-- The line of the moment, then those of the records of all ports in key order.
abbrev pub machines_text : AddressFamily → Downstream → List ℕ
machines_text family machines = moment_line machines.moment ++ flat_map (record_line family) machines.records

-- The lines of a demand with this normal form, then the counts.
abbrev pub wants_text : AddressFamily → Bool → RouteTable → List GroupForm → Counts → List ℕ
wants_text family shows_via routes form counts = demand_text family shows_via routes form ++ counts_line counts

-- The text of a state whose demand has this normal form.
abbrev pub text_with : AddressFamily → Bool → RouterState → List GroupForm → Counts → List ℕ
text_with family shows_via state form counts =
    machines_text family state.machines ++ wants_text family shows_via state.routes form counts

-- `IsWritten` holds for the text of this state, with the normal form of what its machines want.
pub record IsStateText (family : AddressFamily) (shows_via : Bool) (state : RouterState) (counts : Counts)
    (IsWritten : List ℕ → Type 0) : Type 0 where
  pub form : List GroupForm
  pub demand : IsFormOf family (wants state.machines) form
  pub written : IsWritten (text_with family shows_via state form counts)

-- What `write_state` returns and writes. The whole text was written, or a prefix of it if the
-- device fails, or nothing if memory is refused.
abbrev pub WritesState : AddressFamily → Bool → RouterState → Counts → Option (List ℕ) → Option (List ℕ)
    → Result (Unit {0}) StateFault → Type 0
WritesState family shows_via state counts old new (Ok done) =
    IsStateText family shows_via state counts (Appends old new)
WritesState family shows_via state counts old new (Err Output) =
    IsStateText family shows_via state counts (AppendsFront old new)
WritesState family shows_via state counts old new (Err Memory) = Keeps old new

-- How often the device has failed after the call: once more if the result is `Output`, otherwise as
-- often as before it.
abbrev pub failures_of : ℕ → Result (Unit {0}) StateFault → ℕ
failures_of before (Err Output) = min (before + 1) top_count
failures_of before answer = before
