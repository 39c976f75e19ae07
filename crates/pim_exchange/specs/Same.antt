-- The comparison of two routers after their replays: whether they want the same of an upstream
-- neighbour.
use Rattle.std.specs.Prelude.{◌≡◌, ◌↔◌, ℕ, Bool, true, false, IsTrue, List, Option, Some, Result, Ok, Err}
use Rattle.std.specs.Io.KnownBytes.{Appends, Keeps}
use Rattle.pim_addr.specs.declared.family.AddressFamily.{AddressFamily}
use Rattle.pim_device.specs.Device.{AppendsFront}
use Rattle.pim_form.specs.Messages.{Writing}
use Rattle.pim_form.specs.NormalForm.{Agree}
use Rattle.pim_merge.specs.declared.end.End.{End}
use Rattle.pim_merge.specs.Next.{MergeState}
use Rattle.pim_router.specs.Canonical.{demanded, IsFirstTooBig}
use Rattle.pim_router.specs.State.{RouterState}
use Rattle.pim_run.specs.declared.fault.RunFault.TheVariants.{Output, Memory}
use Rattle.pim_report.specs.SameLine.{same_line}
use Rattle.pim_exchange.specs.declared.fault.ExchangeFault.{ExchangeFault}
use Rattle.pim_exchange.specs.declared.fault.ExchangeFault.TheVariants.{Replay, TooBig}
use Rattle.pim_exchange.specs.Runs.{AfterBoth}

-- The status of the result: 0 if the demands are the same, 1 if they differ.
abbrev pub answer_status : Bool → ℕ
answer_status true = 0
answer_status false = 1

module _ (family : AddressFamily) (writing : Writing) (one other : RouterState) where
  -- For each valid source, each group and both trees, the two routers want the same of the writer's
  -- upstream neighbour.
  abbrev pub WantTheSame : Type 0
  WantTheSame = Agree family (demanded family writing.upstream one) (demanded family writing.upstream other)

  -- `same` says whether the two routers want the same, and `IsWritten` holds for it.
  pub record Answers (IsWritten : Bool → Type 0) : Type 0 where
    pub same : Bool
    pub is_so : IsTrue same ↔ WantTheSame
    pub written : IsWritten same

  -- What the comparison of two routers returns and writes. A star that is too big is one of the
  -- first router, or else of the second, and then nothing is written.
  abbrev pub ComparesRouters : {A : Type 0} → (A → List ℕ) → Option (List ℕ) → Option (List ℕ) →
      Result ℕ (ExchangeFault A) → Type 0
  ComparesRouters bytes_of old new (Ok status) =
      Answers (λ same. (status ≡ answer_status same) × Appends old new (same_line same))
  ComparesRouters bytes_of old new (Err (TooBig group)) =
      IsFirstTooBig family writing one other (Some (bytes_of group)) × Keeps old new
  ComparesRouters bytes_of old new (Err (Replay Output)) = Answers (λ same. AppendsFront old new (same_line same))
  ComparesRouters bytes_of old new (Err (Replay Memory)) = Keeps old new
  ComparesRouters bytes_of old new (Err fault) = ⊥

-- What `same_into` returns and writes: it compares the routers after both replays.
abbrev pub Compares : {A : Type 0} → AddressFamily → End → Writing → MergeState → MergeState → RouterState →
    RouterState → MergeState → MergeState → RouterState → RouterState → (A → List ℕ) → Option (List ℕ) →
    Option (List ℕ) → Result ℕ (ExchangeFault A) → Type 0
Compares family end writing merge merge' state after other other' state_of after_of bytes_of old new =
    AfterBoth family end merge merge' state after other other' state_of after_of old new
    (ComparesRouters family writing after after_of bytes_of old new)
