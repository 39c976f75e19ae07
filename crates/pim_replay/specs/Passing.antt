-- What a router reports while time passes up to a moment: its echoes, and its Refreshes. A Refresh
-- comes each t_periodic (RFC 7761, 4.11).
use Rattle.std.specs.Prelude.{◌≡◌, ℕ, List, [], ◌∷◌}
use Rattle.pim_router.specs.declared.step.Step.TheVariants.{Echo, Refresh, Reached}
use Rattle.pim_router.specs.Course.{RouterReport, echo, refresh, verdict}
use Rattle.pim_router.specs.State.{RouterState}
use Rattle.pim_router.specs.Time.{Runs}
use Rattle.pim_replay.specs.declared.event.ReplayEvent.TheVariants as event
use Rattle.pim_replay.specs.Events.{Account, nothing, of_event, of_refreshes, joined}

-- The router runs to the moment, each run continuing where the last one stopped, until nothing is
-- due. Each echo is an event at the moment at which it falls, and each Refresh counts as one.
unfoldable pub Passes : ℕ → List RouterReport → RouterState → Account → RouterState → Type 0
Passes moment [] state account after = Runs moment state Reached after × (account ≡ nothing)
Passes moment (echo port group what ∷ more) state account after =
    (between : RouterState) × (others : Account) × Runs moment state (Echo port group what) between
    × (account ≡ joined (of_event (event.Echo between.machines.moment port group what)) others)
    × Passes moment more between others after
Passes moment (refresh ∷ more) state account after =
    (between : RouterState) × (others : Account) × Runs moment state Refresh between
    × (account ≡ joined (of_refreshes 1) others) × Passes moment more between others after
Passes moment (verdict of_packet ∷ more) state account after = ⊥

-- On the way from `state` to the moment the router reports this account, and `after` is the router
-- then.
pub record PassesTime (moment : ℕ) (state : RouterState) (account : Account) (after : RouterState) : Type 0 where
  pub reported : List RouterReport
  pub passes : Passes moment reported state account after
