-- What was opened, and what is returned and written over it.
use Rattle.pim_commands.proofs.Words.{◌≡◌, ◌∙◌, inl, inr, [], sym, ap, refl, ℕ, List, Option, Result, Ok, Err, AddressFamily}
use Rattle.std.specs.Borrow.{Bor}
use Rattle.pim_local.specs.Joins.{Join}
use Rattle.pim_commands.proofs.Words.{RouteTable, IsOpenWithLocal, AreOpen, MergeState, Fault, OpensNot, Opens, OverOne}
use Rattle.pim_commands.proofs.Words.{OverBoth, IsReported, write_failures_after}
use Rattle.std.proofs.KnownBytes.{Appends-nil}
use Rattle.pim_files.specs.declared.fault.OpenFault.{OpenFault}
use Rattle.pim_files.specs.declared.fault.OpenFault.TheVariants as opening
use Rattle.pim_files.specs.Files.{Known}
use Rattle.pim_files.specs.declared.local.fault.LocalFileFault.TheVariants as local_file
use Rattle.pim_files.specs.declared.routes.fault.RoutesFault.TheVariants as routes
use Rattle.pim_words.specs.declared.task.Captures.{Captures}
use Rattle.pim_faults.specs.Unopened.{open_fault}

-- a fault of opening isn't one of writing
pub not_written : (before : ℕ) (reported : OpenFault) → write_failures_after {A = ℕ} before (Err (open_fault reported)) ≡ before
not_written before opening.Upstream = refl
not_written before opening.Rp = refl
not_written before (opening.File word) = refl
not_written before (opening.Port file cause) = refl
not_written before (opening.Routes routes.TooLong) = refl
not_written before (opening.Routes routes.Read) = refl
not_written before (opening.Routes (routes.Line number)) = refl
not_written before (opening.Routes routes.Memory) = refl
not_written before (opening.Local local_file.TooLong) = refl
not_written before (opening.Local local_file.Read) = refl
not_written before (opening.Local (local_file.Line number)) = refl
not_written before (opening.Local local_file.Memory) = refl
not_written before opening.Memory = refl

-- ---- the result over what is open

module _ {A R : Type 0} (family : AddressFamily) (bytes_of : A → List ℕ) (remaining : R → Option (List ℕ)) (failures : R → ℕ) (known last : Known) (captures : Captures A)
    (upstream : Option A) (local : Option (Bor (List ℕ))) where
  -- of one router
  pub over_open : (Answers : RouteTable → List Join → MergeState → MergeState → Type 0) (table : RouteTable) (joins : List Join) (merge merge' : MergeState)
      → IsOpenWithLocal family bytes_of remaining failures known last captures upstream local table joins merge → Answers table joins merge merge'
      → OverOne family bytes_of remaining failures known last captures upstream local Answers
  over_open Answers table joins merge merge' o is = record {
    table = table;
    is_table = o.is_table;
    joins = joins;
    has_joins = o.has_joins;
    merge = merge;
    merge' = merge';
    each = o.each;
    untaken = o.untaken;
    held = o.held;
    requested = o.requested;
    answers = is;
  }

module _ {A R : Type 0} (family : AddressFamily) (bytes_of : A → List ℕ) (remaining : R → Option (List ℕ)) (failures : R → ℕ) (known last : Known) (captures : Captures A)
    (upstream : Option A) where
  -- of two routers
  pub over_both : (Answers : RouteTable → MergeState → MergeState → MergeState → MergeState → Type 0) (table : RouteTable) (merge merge' other other' : MergeState)
      → AreOpen family bytes_of remaining failures known last captures upstream table merge other → Answers table merge merge' other other'
      → OverBoth family bytes_of remaining failures known last captures upstream Answers
  over_both Answers table merge merge' other other' o is = record {
    table = table;
    is_table = o.is_table;
    merge = merge;
    merge' = merge';
    other = other;
    other' = other';
    each_of_a = o.each_of_a;
    each_of_b = o.each_of_b;
    untaken_of_a = o.untaken_of_a;
    untaken_of_b = o.untaken_of_b;
    held_of_a = o.held_of_a;
    held_of_b = o.held_of_b;
    requested = o.requested;
    answers = is;
  }

-- nothing was written
pub nothing_told : (old : Option (List ℕ)) (failures : ℕ) → IsReported [] old old failures failures
nothing_told old failures = inl (Appends-nil old, refl)

-- a file isn't open, and the device has not failed
pub not_failed : (Unopened : OpenFault → Type 0) (known last : Known) (names : List (List ℕ)) (before : ℕ) (fault : Fault) → OpensNot Unopened known last names fault
    → before ≡ write_failures_after {A = ℕ} before (Err fault)
not_failed Unopened known last names before fault u = sym (ap (λ (f : Fault). write_failures_after {A = ℕ} before (Err f)) u.is ∙ not_written before u.reported)

-- what is returned and written over it
pub answered : (Unopened : Fault → Type 0) (Warns : List ℕ → Type 0) (old new : Option (List ℕ)) (result : Result ℕ Fault) (Answered : Type 0) → Answered → Opens Unopened Warns old new result Answered
answered Unopened Warns old new (Ok status) Answered is = is
answered Unopened Warns old new (Err fault) Answered is = inr is
