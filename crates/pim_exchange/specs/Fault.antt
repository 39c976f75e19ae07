-- Why a call of this crate fails, and how often its device has failed then.
use Rattle.std.specs.Prelude.{ℕ, Result, Ok, Err}
use Rattle.pim_form.specs.declared.fault.FormFault.{FormFault}
use Rattle.pim_form.specs.declared.fault.FormFault.TheVariants as form
use Rattle.pim_mirror.specs.declared.mirroring.MirrorFault.{MirrorFault}
use Rattle.pim_mirror.specs.declared.mirroring.MirrorFault.TheVariants as mirror
use Rattle.pim_run.specs.declared.fault.RunFault.{RunFault}
use Rattle.pim_run.specs.declared.fault.RunFault.TheVariants.{Capture, Memory}
use Rattle.pim_run.specs.Faults.{failures_of_device}
use Rattle.pim_exchange.specs.declared.fault.ExchangeFault.{ExchangeFault}
use Rattle.pim_exchange.specs.declared.fault.ExchangeFault.TheVariants.{Replay, Second, TooBig, Full}

-- How often the device has failed after the call: once more if the result is `Output`, otherwise as
-- often as before it.
abbrev pub failures_of_exchange : {T A : Type 0} → ℕ → Result T (ExchangeFault A) → ℕ
failures_of_exchange before (Ok done) = before
failures_of_exchange before (Err (Replay fault)) = failures_of_device {A = ℕ} before (Err fault)
failures_of_exchange before (Err other) = before

-- ---- used by private functions only

-- Why the call fails when the second router's replay stops.
abbrev pub of_second : {A : Type 0} → RunFault → ExchangeFault A
of_second (Capture reported) = Second reported
of_second fault = Replay fault

-- Why the call fails when the demands can't be compared or written.
abbrev pub of_form : {F A N : Type 0} → FormFault F A N → ExchangeFault A
of_form (form.TooBig group) = TooBig group
of_form other = Replay Memory

-- Why the call fails when there is no fresh router.
abbrev pub of_mirror : {A : Type 0} → MirrorFault → ExchangeFault A
of_mirror (mirror.Full needed) = Full needed
of_mirror mirror.Memory = Replay Memory
