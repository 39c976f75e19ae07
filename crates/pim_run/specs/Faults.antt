-- Why a run stops, and how often the device has failed then.
use Rattle.std.specs.Prelude.{ℕ, ◌+◌, min, Result, Ok, Err}
use Rattle.pim_device.specs.Device.{top_count}
use Rattle.pim_capture.specs.declared.fault.CaptureFault.{CaptureFault}
use Rattle.pim_capture.specs.declared.fault.CaptureFault.TheVariants as capture
use Rattle.pim_merge.specs.declared.merge.MergeFault.{MergeFault}
use Rattle.pim_run.specs.declared.fault.RunFault.{RunFault}
use Rattle.pim_run.specs.declared.fault.RunFault.TheVariants.{Capture, Output, Memory}
use Rattle.pim_run.specs.declared.fault.TurnFault.{TurnFault}
use Rattle.pim_run.specs.declared.fault.TurnFault.TheVariants as turn

-- Why a run ends at this fault of its merge: `Memory` if memory was refused, otherwise `Capture`.
abbrev pub stop_by : MergeFault → CaptureFault → RunFault
stop_by fault capture.Memory = Memory
stop_by fault _ = Capture fault

-- The same, by the fault that the merge returned.
abbrev pub stopped_by : MergeFault → RunFault
stopped_by fault = stop_by fault fault.fault

-- Why a run ends when a turn isn't taken.
abbrev pub of_turn : TurnFault → RunFault
of_turn turn.Output = Output
of_turn turn.Memory = Memory

-- How often the device has failed after a turn: once more if the result is `Output`, otherwise as
-- often as before it. The count stops at 2^64 - 1.
abbrev pub failures_by : {A : Type 0} → ℕ → Result A TurnFault → ℕ
failures_by before (Ok done) = before
failures_by before (Err turn.Output) = min (before + 1) top_count
failures_by before (Err turn.Memory) = before

-- The same after a run.
abbrev pub failures_of_device : {A : Type 0} → ℕ → Result A RunFault → ℕ
failures_of_device before (Ok done) = before
failures_of_device before (Err (Capture fault)) = before
failures_of_device before (Err Output) = min (before + 1) top_count
failures_of_device before (Err Memory) = before

-- This fact holds if each turn that was begun was taken to its end.
abbrev pub OnWhole : {A : Type 0} → Result A RunFault → Type 0 → Type 0
OnWhole (Ok done) fact = fact
OnWhole (Err (Capture fault)) fact = fact
OnWhole (Err Output) fact = Unit {0}
OnWhole (Err Memory) fact = Unit {0}
