-- What an upstream neighbour was asked for: the machines of one port that hears what the neighbour
-- hears (RFC 7761, 4.5).
use Rattle.std.specs.Prelude.{ℕ, false, List, [], ◌∷◌, Option, None, Some}
use Rattle.pim_jp.specs.Message.{Message}
use Rattle.pim_down.specs.declared.machines.event.Timing.{Timing}
use Rattle.pim_down.specs.declared.machines.step.Firing.{Firing}
use Rattle.pim_down.specs.Firing.{FiresTo}
use Rattle.pim_down.specs.Heard.{heard}
use Rattle.pim_down.specs.Time.{Downstream}

-- These timers fire one after the other, and then none is due up to the moment.
unfoldable pub FiresThrough : List (Firing (List ℕ)) → ℕ → Downstream → Downstream → Type 0
FiresThrough [] moment state after = FiresTo moment state None after
FiresThrough (firing ∷ firings) moment state after =
    (middle : Downstream) × FiresTo moment state (Some firing) middle × FiresThrough firings moment middle after

-- Time passes up to the moment. Each timer on the way fires.
pub record PassesTo (moment : ℕ) (state after : Downstream) : Type 0 where
  pub firings : List (Firing (List ℕ))
  pub through : FiresThrough firings moment state after

-- A Prune takes effect at once, since nobody is there to override it.
abbrev pub at_once : Timing
at_once = record { override_ms = 0; several = false }

-- The machines after the neighbour hears a message, where `known` gives RP(G) of each group: its
-- Prunes have taken effect.
abbrev pub AskedBy : Message → (List ℕ → Option (List ℕ)) → Downstream → Downstream → Type 0
AskedBy message known asked after = PassesTo asked.moment (heard 0 message known at_once asked) after
