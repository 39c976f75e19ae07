-- The addresses of the message that a task of `check` asks for.
use Rattle.std.specs.Prelude.{ℕ, List, [], ⊤}
use Rattle.pim_words.specs.declared.task.Task.{Task}
use Rattle.pim_words.specs.declared.task.Task.TheVariants.{Check, CheckPartial}

module _ {A : Type 0} (bytes_of : A → List ℕ) where
  -- The source address of the message; empty for a task of another command.
  abbrev pub task_source : Task A → List ℕ
  task_source (Check source destination) = bytes_of source
  task_source (CheckPartial source destination) = bytes_of source
  task_source other = []

  -- The destination address of the message; empty for a task of another command.
  abbrev pub task_destination : Task A → List ℕ
  task_destination (Check source destination) = bytes_of destination
  task_destination (CheckPartial source destination) = bytes_of destination
  task_destination other = []

-- The task is one of `check`.
abbrev pub IsCheckTask : {A : Type 0} → Task A → Type 0
IsCheckTask (Check source destination) = ⊤
IsCheckTask other = ⊥

-- The task is one of `check --partial`.
abbrev pub IsPartialTask : {A : Type 0} → Task A → Type 0
IsPartialTask (CheckPartial source destination) = ⊤
IsPartialTask other = ⊥
