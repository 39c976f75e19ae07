-- A run that passes the refreshes on its way and counts them (RFC 7761, 4.11: t_periodic).
use Rattle.std.specs.Prelude.{ℕ, zero, suc, ◌+◌, List}
use Rattle.pim_down.specs.declared.machines.step.Step.{Step as Fires}
use Rattle.pim_down.specs.declared.machines.step.Step.TheVariants as fires
use Rattle.pim_router.specs.declared.step.Step.{Step}
use Rattle.pim_router.specs.declared.step.Step.TheVariants.{Echo, Refresh, Reached}
use Rattle.pim_router.specs.State.{RouterState}
use Rattle.pim_router.specs.Time.{Runs}

-- Consecutive runs up to the moment: the first `refreshes` of them end at a refresh, and the one
-- after them ends with this step and leaves this state.
unfoldable pub RunsPast : ℕ → ℕ → RouterState → Step (List ℕ) → RouterState → Type 0
RunsPast zero moment state answer after = Runs moment state answer after
RunsPast (suc refreshes) moment state answer after =
    (between : RouterState) × Runs moment state Refresh between × RunsPast refreshes moment between answer after

-- The end of such a run as the end of a router's run: an echo, or the moment is reached.
abbrev pub fires_behind : Fires (List ℕ) → Step (List ℕ)
fires_behind (fires.Echo port group what) = Echo port group what
fires_behind fires.Reached = Reached

-- The first moment whose refresh a run that stopped at `moment` hasn't counted. At an echo it is
-- that moment, since an echo comes before the refresh of its millisecond; else it is the next
-- moment.
abbrev pub first_unreported : {A : Type 0} → Fires A → ℕ → ℕ
first_unreported (fires.Echo port group what) moment = moment
first_unreported fires.Reached moment = moment + 1
