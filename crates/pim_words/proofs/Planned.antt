-- From what is read of the words to the plan, or to the cause why there is none.
use Rattle.pim_words.proofs.Words.{◌≡◌, inr, refl, subst, false, List, [], Option, None, Some, option_map, MatchResult, Result}
use Rattle.pim_words.proofs.Words.{Ok, Err, IsSomeAnd, App, Row, Text, fault_of, subcommand_of, AnyAddress, CommandFault, Memory}
use Rattle.pim_words.proofs.Words.{CommandPlan, V4, V6, Session, Task, IsFaultless, IsFirstFault, IsTaskOf, IsPlanOfTask}
use Rattle.pim_words.proofs.Words.{IsWrongTask, IsPlanOf, IsWrongOf, Plans, HasWrong, HasCause, IsGiven}
use Rattle.pim_words.specs.Inputs.{names_input_twice}

-- what holds of the command that was met
pub some_given : (met : Option (Text × List Row)) (rows : List Row) → Some rows ≡ option_map (λ p. p.1) met → ((m : Text × List Row) → met ≡ Some m → IsGiven m) → IsSomeAnd met IsGiven
some_given None rows is given = absurd cc
some_given (Some m) rows is given = given m refl

-- ---- the plan of the command that was met

-- The plan of a task that reads standard input at most once, or the fault.
pub once : (task : Task AnyAddress) (r : Result CommandPlan CommandFault) → names_input_twice task ≡ false → MatchResult r (IsFaultless task) (IsFirstFault task) → MatchResult r (IsPlanOfTask task) (IsWrongTask task)
once task (Ok plan) test is = (test, is)
once task (Err Memory) test is = tt
once task (Err fault) test is = inr (test, is)

plan_of : (m : Text × List Row) (task : Task AnyAddress) (plan : CommandPlan) → IsTaskOf m task → IsPlanOfTask task plan → IsPlanOf m plan
plan_of m task (V4 typed) t is = (task, t, is)
plan_of m task (V6 typed) t is = (task, t, is)
plan_of m task Session t is = absurd is.1.1

-- The plan of its task, or the fault.
pub of_task : (m : Text × List Row) (task : Task AnyAddress) (r : Result CommandPlan CommandFault) → IsTaskOf m task → MatchResult r (IsPlanOfTask task) (IsWrongTask task) → MatchResult r (IsPlanOf m) (IsWrongOf m)
of_task m task (Ok plan) t is = plan_of m task plan t is
of_task m task (Err fault) t is = inr (task, t, is)

module _ {X : Type 0} (name_of : X → Text) (rows_of : X → List Row) where
  abbrev met_of : Option X → Option (Text × List Row)
  met_of o = option_map (λ x. (name_of x, rows_of x)) o

  -- The plan of the command that was met, which has this name and these rows.
  pub of_met : (o : Option X) (name : Text) (rows : List Row) → Some name ≡ option_map name_of o → Some rows ≡ option_map (λ p. p.1) (met_of o) → (r : Result CommandPlan CommandFault)
      → MatchResult r (IsPlanOf (name, rows)) (IsWrongOf (name, rows)) → MatchResult r (λ plan. IsSomeAnd (met_of o) (λ m. IsPlanOf m plan)) (λ fault. IsSomeAnd (met_of o) (λ m. IsWrongOf m fault))
  of_met None name rows named given r is = absurd cc
  of_met (Some x) name rows named given (Ok plan) is = let same : (name, rows) ≡ (name_of x, rows_of x) = cc in subst (λ (m : Text × List Row). IsPlanOf m plan) same is
  of_met (Some x) name rows named given (Err fault) is = let same : (name, rows) ≡ (name_of x, rows_of x) = cc in subst (λ (m : Text × List Row). IsWrongOf m fault) same is

module _ (app : App) (words : List Text) where
  wrong : (fault : CommandFault) → HasWrong app words fault → HasCause app words fault
  wrong Memory is = tt
  wrong fault is = inr is

  pub planned : (none : fault_of app words ≡ []) (met : Option (Text × List Row)) (r : Result CommandPlan CommandFault) → met ≡ subcommand_of app words
      → MatchResult r (λ plan. IsSomeAnd met (λ m. IsPlanOf m plan)) (λ fault. IsSomeAnd met (λ m. IsWrongOf m fault)) → MatchResult r (Plans app words) (HasCause app words)
  planned none met (Ok plan) is of = (none, subst (λ (o : Option (Text × List Row)). IsSomeAnd o (λ m. IsPlanOf m plan)) is of)
  planned none met (Err fault) is of = wrong fault (none, subst (λ (o : Option (Text × List Row)). IsSomeAnd o (λ m. IsWrongOf m fault)) is of)
