-- A run that stops at each timer that fires, and says which (RFC 7761, 4.5). It is the run of
-- `Time` in smaller parts: a run of `Time` passes such firings up to the first PruneEcho.
use Rattle.std.specs.Prelude.{◌≡◌, ℕ, ◌+◌, ◌-◌, ◌≤◌, max, false, if◌then◌else◌, List, Option, None, Some}
use Rattle.pim_down.specs.declared.machines.machine.Record.{Record}
use Rattle.pim_down.specs.declared.machines.step.Firing.{Firing}
use Rattle.pim_down.specs.declared.machines.step.Step.{Step}
use Rattle.pim_down.specs.declared.machines.step.Step.TheVariants.{Echo, Reached}
use Rattle.pim_down.specs.declared.machines.step.Timer.TheVariants.{PrunePending, Expiry}
use Rattle.pim_down.specs.Records.{state_of_machine}
use Rattle.pim_down.specs.Time.{Downstream, on_ppt, after_ppt, after_et, ppt_due, et_due, had_several, echoes_at}
use Rattle.pim_down.specs.Time.{first_due, with_first, with_records, ticks, IsQuietFor}

-- ---- one timer fires

-- The record's Prune-Pending Timer fires: the state afterwards, and whether a PruneEcho is due (RFC
-- 7761, Figures 2 to 4).
abbrev pub ppt_fires : Record (List ℕ) → Firing (List ℕ)
ppt_fires held = record {
  timer = PrunePending;
  before = held;
  after = state_of_machine (on_ppt held.key.what held.machine);
  echo = echoes_at held.key.what (had_several held.machine.pending);
}

-- The record's Expiry Timer fires: the machine goes to NoInfo (RFC 7761, Figures 2 to 4).
abbrev pub et_fires : Record (List ℕ) → Firing (List ℕ)
et_fires held = record { timer = Expiry; before = held; after = None; echo = false }

-- The firing of the first due Expiry Timer, and the records after it. `None` where none is due.
abbrev pub et_firing : List (Record (List ℕ)) → Option (Record (List ℕ)) →
    Option (Firing (List ℕ) × List (Record (List ℕ)))
et_firing records None = None
et_firing records (Some held) = Some (et_fires held, with_first et_due after_et records)

-- The firing of the first due Prune-Pending Timer, or where none is due, of the first due Expiry
-- Timer.
abbrev pub ppt_firing : List (Record (List ℕ)) → Option (Record (List ℕ)) →
    Option (Firing (List ℕ) × List (Record (List ℕ)))
ppt_firing records None = et_firing records (first_due et_due records)
ppt_firing records (Some held) = Some (ppt_fires held, with_first ppt_due after_ppt records)

-- The timer that fires first, and the records after it; `None` where no timer is due.
-- Prune-Pending Timers fire before Expiry Timers, each in key order.
unfoldable pub firing : List (Record (List ℕ)) → Option (Firing (List ℕ) × List (Record (List ℕ)))
firing records = ppt_firing records (first_due ppt_due records)

-- What a run reports of a timer that fires: a PruneEcho, or nothing.
abbrev pub step_of : Firing (List ℕ) → Step (List ℕ)
step_of fired =
    if fired.echo then Echo fired.before.key.port fired.before.key.group fired.before.key.what else Reached

-- ---- a run up to the first timer that fires

-- The same ports at the same moment, with the records that a firing leaves.
abbrev pub fired_in : Downstream → Option (Firing (List ℕ) × List (Record (List ℕ))) →
    Option (Firing (List ℕ) × Downstream)
fired_in state None = None
fired_in state (Some (fired, records)) = Some (fired, with_records state records)

-- The timer that fires first in this state, and the state after it; `None` where no timer is due.
abbrev pub firing_in : Downstream → Option (Firing (List ℕ) × Downstream)
firing_in state = fired_in state (firing state.records)

-- The run from a state up to a moment, or until one timer fires. An earlier moment counts as the
-- present one. `None`: time passes up to the moment, and no timer is due by then. Otherwise no
-- timer is due before the moment of `after`, which is no later, and there this timer fires.
abbrev pub FiresTo : ℕ → Downstream → Option (Firing (List ℕ)) → Downstream → Type 0
FiresTo moment state None after =
    IsQuietFor (moment - state.moment + 1) state × (after ≡ ticks (moment - state.moment) state)
FiresTo moment state (Some fired) after =
    (after.moment ≤ max state.moment moment) × IsQuietFor (after.moment - state.moment) state
    × (firing_in (ticks (after.moment - state.moment) state) ≡ Some (fired, after))
