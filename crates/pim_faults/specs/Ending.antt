-- How a run that met a fault ends: what is written, on which device, and the status.
use Rattle.std.specs.Prelude.{◌≡◌, ◌⊎◌, ℕ, ◌+◌, Bool, true, false, List, Option, Some, None, min}
use Rattle.std.specs.Prelude.{string_bytes, unwrap_or}
use Rattle.std.specs.Io.KnownBytes.{Appends}
use Rattle.clap.specs.declared.error.kind.ErrorKind.{ErrorKind}
use Rattle.clap.specs.declared.error.kind.ErrorKind.TheVariants.{DisplayHelp, DisplayVersion}
use Rattle.pim_device.specs.Device.{AppendsFront, top_count}
use Rattle.pim_words.specs.declared.fault.CommandFault.{CommandFault as WordsFault}
use Rattle.pim_words.specs.declared.fault.CommandFault.TheVariants.{Clap}
use Rattle.pim_faults.specs.declared.fault.Fault.{Fault}
use Rattle.pim_faults.specs.declared.fault.Fault.TheVariants.{Words}
use Rattle.pim_faults.specs.Words.{fault_text}

-- Whether `clap`'s error is a request for help or for the version.
abbrev pub is_request : ErrorKind → Bool
is_request DisplayHelp = true
is_request DisplayVersion = true
is_request mistake = false

-- Whether `clap` shows what the words asked for. This is no mistake.
abbrev pub is_shown : WordsFault → Bool
is_shown (Clap refusal) = is_request refusal.kind
is_shown other = false

-- Whether the fault is a request for help or for the version.
abbrev pub is_help : Fault → Bool
is_help (Words fault) = is_shown fault
is_help other = false

-- `clap`'s own text of what it refuses or shows.
abbrev pub clap_text : WordsFault → Option (List ℕ)
clap_text (Clap refusal) = Some (string_bytes refusal.text)
clap_text other = None

-- The text of `clap` that the fault holds, if it holds one.
abbrev pub own_text : Fault → Option (List ℕ)
own_text (Words fault) = clap_text fault
own_text other = None

-- What is written of the fault: `clap`'s own text if there is one, otherwise the line of the fault.
abbrev pub written_text : Fault → List ℕ
written_text fault = unwrap_or (own_text fault) (fault_text fault)

-- ---- a device that a text is written to: its bytes and its count of failures, before and after

-- The device took the whole text.
abbrev pub TookAll : List ℕ → Option (List ℕ) → Option (List ℕ) → ℕ → ℕ → Type 0
TookAll text old new before after = Appends old new text × (after ≡ before)

-- The device failed, and took a prefix of the text.
abbrev pub Stopped : List ℕ → Option (List ℕ) → Option (List ℕ) → ℕ → ℕ → Type 0
Stopped text old new before after = AppendsFront old new text × (after ≡ min (before + 1) top_count)

-- The status of a request: 0 if the device took the whole text, 2 if it failed.
abbrev pub IsAnswered : ℕ → List ℕ → Option (List ℕ) → Option (List ℕ) → ℕ → ℕ → Type 0
IsAnswered status text old new before after =
    ((status ≡ 0) × TookAll text old new before after) ⊎ ((status ≡ 2) × Stopped text old new before after)

-- A mistake was written, or the device failed.
abbrev pub IsReported : List ℕ → Option (List ℕ) → Option (List ℕ) → ℕ → ℕ → Type 0
IsReported text old new before after = TookAll text old new before after ⊎ Stopped text old new before after
