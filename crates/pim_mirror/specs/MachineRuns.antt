-- The runs of a router as runs of its downstream machines (RFC 7761, 4.5).
use Rattle.std.specs.Prelude.{◌≡◌, ℕ, List, [], ◌∷◌}
use Rattle.pim_down.specs.declared.machines.step.Step.{Step}
use Rattle.pim_down.specs.declared.machines.step.Step.TheVariants.{Reached}
use Rattle.pim_down.specs.Time.{Downstream, Runs}
use Rattle.pim_router.specs.State.{RouterState}

-- Consecutive runs of the machines up to the moment, which stop at these echoes, in order, and then
-- reach it.
unfoldable pub MachinesArrive : List (Step (List ℕ)) → ℕ → Downstream → Downstream → Type 0
MachinesArrive [] moment state after = Runs moment state Reached after
MachinesArrive (echo ∷ echoes) moment state after =
    (middle : Downstream) × Runs moment state echo middle × MachinesArrive echoes moment middle after

-- The router's machines run through some echoes to the moment, and its ports and its route table
-- stay.
pub record IsRunOfMachines (moment : ℕ) (state after : RouterState) : Type 0 where
  pub echoes : List (Step (List ℕ))
  pub arrives : MachinesArrive echoes moment state.machines after.machines
  pub routes : after.routes ≡ state.routes
  pub ports : after.ports ≡ state.ports
