-- What a task returns and writes: what its command does.
use Rattle.std.specs.Prelude.{ℕ, List, [], Option, Result, IfSome}
use Rattle.pim_addr.specs.declared.family.AddressFamily.{AddressFamily}
use Rattle.pim_files.specs.Files.{Known}
use Rattle.pim_words.specs.declared.task.Task.{Task}
use Rattle.pim_words.specs.declared.task.Task.TheVariants.{Check, CheckPartial, Build, Replay, Trace, Audit, Same}
use Rattle.pim_words.specs.declared.task.Task.TheVariants.{Mirror, Emit, Change}
use Rattle.pim_faults.specs.declared.fault.Fault.{Fault}
use Rattle.pim_commands.specs.Building.{Builds}
use Rattle.pim_commands.specs.Partial.{PartlyReports}
use Rattle.pim_commands.specs.Opening.{ReplaysFiles, TracesFiles, AuditsFiles, ComparesFiles, MirrorsFiles, EmitsFiles, ChangesFiles}
use Rattle.pim_commands.specs.Report.{Reports, input_report}

-- The result and the output of a task, by the bytes of standard input, if they are known, and by
-- what is known of the opener. `Warns` says of a text that it was written to the device for errors.
module _ {A R : Type 0} (family : AddressFamily) (bytes_of : A → List ℕ) (remaining : R → Option (List ℕ))
    (failures : R → ℕ) (known known' : Known) (input : Option (List ℕ)) (Warns : List ℕ → Type 0)
    (old new : Option (List ℕ)) (result : Result ℕ Fault) where
  abbrev pub DoesTask : Task A → Type 0
  DoesTask (Check source destination) = IfSome input (λ message.
      Reports (input_report family (bytes_of source) (bytes_of destination) message) old new result) × Warns []
  DoesTask (CheckPartial source destination) = IfSome input (λ message.
      PartlyReports family message (input_report family (bytes_of source) (bytes_of destination) message) old new result)
      × Warns []
  DoesTask (Build source destination) = IfSome input (λ text.
      Builds family (bytes_of source) (bytes_of destination) text old new result) × Warns []
  DoesTask (Replay captures) = ReplaysFiles family bytes_of remaining failures known known' captures Warns old new result
  DoesTask (Trace captures tracing) =
      TracesFiles family bytes_of remaining failures known known' captures tracing Warns old new result
  DoesTask (Audit captures auditing tracing) =
      AuditsFiles family bytes_of remaining failures known known' captures auditing tracing Warns old new result
  DoesTask (Same captures writing) =
      ComparesFiles family bytes_of remaining failures known known' captures writing Warns old new result
  DoesTask (Mirror captures writing) =
      MirrorsFiles family bytes_of remaining failures known known' captures writing Warns old new result
  DoesTask (Emit captures writing) =
      EmitsFiles family bytes_of remaining failures known known' captures writing Warns old new result
  DoesTask (Change captures writing) =
      ChangesFiles family bytes_of remaining failures known known' captures writing Warns old new result
