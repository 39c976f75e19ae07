-- How the run of a task ends: what its command did, whether its output was passed on, and whether
-- its warnings were written.
use Rattle.std.specs.Prelude.{◌≡◌, ◌≢◌, ◌+◌, ℕ, List, [], Option, Some, Result, Ok, Err, IfOk, IfErr, MatchResult, min}
use Rattle.std.specs.Io.KnownBytes.{Keeps}
use Rattle.pim_addr.specs.declared.family.AddressFamily.{AddressFamily}
use Rattle.pim_device.specs.Device.{AppendsFront, top_count}
use Rattle.pim_commands.specs.Report.{write_failures_after}
use Rattle.pim_faults.specs.Ending.{IsReported, TookAll}
use Rattle.pim_faults.specs.declared.fault.Fault.{Fault}
use Rattle.pim_faults.specs.declared.fault.Fault.TheVariants.{Output, Memory}
use Rattle.pim_commands.specs.Running.{DoesTask}
use Rattle.pim_files.specs.Files.{Known}
use Rattle.pim_words.specs.declared.task.Task.{Task}

-- The result of a run by that of its command, and by that of passing its output and warnings on. A
-- fault of the command comes first.
abbrev pub first_fault : Result ℕ Fault → Result (Unit {0}) Fault → Result ℕ Fault
first_fault (Err fault) passed = Err fault
first_fault (Ok status) (Ok done) = Ok status
first_fault (Ok status) (Err fault) = Err fault

-- A device failed once more than before.
abbrev pub FailsOnce : ℕ → ℕ → Type 0
FailsOnce before after = after ≡ min (before + 1) top_count

-- Why the output and the warnings weren't passed on: a device failed, or memory for warnings was
-- refused this often.
abbrev pub IsUnpassed : ℕ → Type 0 → Fault → Type 0
IsUnpassed refused Fails Output = Fails
IsUnpassed refused Fails Memory = refused ≢ 0
IsUnpassed refused Fails other = ⊥

-- The device for errors took all of these warnings where they were passed on, otherwise a front of
-- them. `old` and `new` are its bytes, `before` and `after` the counts of its failures.
abbrev pub AreWritten : Result (Unit {0}) Fault → List ℕ → Option (List ℕ) → Option (List ℕ) → ℕ → ℕ → Type 0
AreWritten passed warnings old new before after =
    MatchResult passed (λ _. TookAll warnings old new before after) (λ _. AppendsFront old new warnings)

module _ {A R : Type 0} (family : AddressFamily) (bytes_of : A → List ℕ) (remaining : R → Option (List ℕ))
    (failures : R → ℕ) (known known' : Known) (input : Option (List ℕ))
    (Writes : Result (Unit {0}) Fault → List ℕ → Type 0) (before : ℕ) (Fails : ℕ → Type 0)
    (old new : Option (List ℕ)) (result : Result ℕ Fault) (task : Task A) where
  -- The task was done, then its output was passed on, then its warnings. `old` and `new` are the
  -- bytes of the output, `before` is how often it had failed. `Writes` says of warnings what the
  -- device for errors took of them, `Fails` of the failures of the output that it or that device
  -- failed once more.
  pub record Runs : Type 0 where
    -- what the command returned, and what passing on did
    pub answer : Result ℕ Fault
    pub passed : Result (Unit {0}) Fault
    pub ends : result ≡ first_fault answer passed
    -- the bytes of the output after the command, and how often it had failed
    pub written : Option (List ℕ)
    pub kept : Keeps written new
    pub failed : ℕ
    pub counted : failed ≡ write_failures_after before answer
    -- the warnings of the command, or a front of them where memory for them was refused
    pub warnings : List ℕ
    pub refused : ℕ
    pub fault : IfErr passed (IsUnpassed refused (Fails failed))
    pub whole : IfOk passed (λ _. refused ≡ 0)
    pub warned : Writes passed warnings
    pub does : DoesTask family bytes_of remaining failures known known' input
        (λ text. IsReported text (Some []) (Some warnings) 0 refused) old written answer task
