-- What a port hears, and the machines that are left, through the echoes (PruneEcho) on the way.
use Rattle.std.specs.Prelude.{◌≡◌, ◌⊎◌, ℕ, ◌+◌, ◌-◌, ◌≤◌, ◌<◌, List, [], ◌∷◌, Option, None, Some}
use Rattle.pim_down.specs.declared.machines.key.What.{What}
use Rattle.pim_down.specs.declared.machines.key.What.TheVariants.{Star, Source, Rpt}
use Rattle.pim_down.specs.declared.machines.key.Key.{Key}
use Rattle.pim_down.specs.declared.machines.machine.Pending.{Pending}
use Rattle.pim_down.specs.declared.machines.machine.Machine.{Machine}
use Rattle.pim_down.specs.declared.machines.step.Step.{Step}
use Rattle.pim_down.specs.declared.machines.step.Step.TheVariants.{Reached}
use Rattle.pim_down.specs.Records.{machine_at}
use Rattle.pim_down.specs.Time.{Downstream, Runs}
use Rattle.pim_fresh.specs.Exchange.{Exchange, starts}
use Rattle.pim_fresh.specs.Deliveries.{Delivery, IsShorter}
use Rattle.pim_fresh.specs.Hearing.{after_message}
use Rattle.pim_settling.specs.Course.{Course, course_heard}

-- Runs up to the moment, one after the other. Each but the last stops at one of these echoes.
unfoldable pub Arrives : List (Step (List ℕ)) → ℕ → Downstream → Downstream → Type 0
Arrives [] moment state after = Runs moment state Reached after
Arrives (echo ∷ echoes) moment state after =
    (middle : Downstream) × Runs moment state echo middle × Arrives echoes moment middle after

-- Each Expiry Timer that runs has more left than there is until this moment.
abbrev pub NoneExpires : ℕ → Downstream → Type 0
NoneExpires moment state = (key : Key (List ℕ)) (machine : Machine) → machine_at key state.records ≡ Some machine →
    IsShorter (moment - state.moment) machine.expires_in

-- A Prune-Pending Timer leads the machine to NoInfo within this time: that of (*,G) or (S,G), in
-- Figure 2 and Figure 3 of RFC 7761.
abbrev pub IsPrunedBy : ℕ → What (List ℕ) → Option Pending → Type 0
IsPrunedBy time what None = ⊥
IsPrunedBy time Star (Some timer) = timer.ends_in ≤ time
IsPrunedBy time (Source source) (Some timer) = timer.ends_in ≤ time
IsPrunedBy time (Rpt source) (Some timer) = ⊥

-- In this time without a message the Expiry Timer doesn't end: it has more left, or its machine is
-- in NoInfo before it would end.
abbrev pub NotEnded : ℕ → What (List ℕ) → Option ℕ → Option Pending → Type 0
NotEnded passed what None pending = Unit {0}
NotEnded passed what (Some left) pending = (passed < left) ⊎ IsPrunedBy left what pending

-- Without a message no Expiry Timer ends by this moment.
abbrev pub NoneEnds : ℕ → Downstream → Type 0
NoneEnds moment state = (key : Key (List ℕ)) (machine : Machine) → machine_at key state.records ≡ Some machine →
    NotEnded (moment - state.moment) key.what machine.expires_in machine.pending

-- From these machines the port runs to the moment, which isn't earlier, through all echoes, and no
-- Expiry Timer ends.
pub record Passes (moment : ℕ) (state after : Downstream) : Type 0 where
  pub later : state.moment ≤ moment
  pub lasts : NoneEnds moment state
  pub echoes : List (Step (List ℕ))
  pub arrives : Arrives echoes moment state after

-- Some machines with the property `Before` become `after` by the message and the time up to the
-- moment.
pub record Goes (Before : Downstream → Type 0) (exchange : Exchange) (message moment : ℕ) (after : Downstream) :
    Type 0 where
  pub before : Downstream
  pub was : Before before
  pub passes : Passes moment (after_message exchange message before) after

-- From the machines at the start, these deliveries, the newest first, and the time up to the moment
-- leave these machines.
unfoldable pub Hears : Exchange → Downstream → List Delivery → ℕ → Downstream → Type 0
Hears exchange start [] moment after = Passes moment start after
Hears exchange start (delivery ∷ earlier) moment after =
    Goes (Hears exchange start earlier delivery.moment) exchange delivery.message moment after

-- The course of a machine after these deliveries.
unfoldable pub course_of : Exchange → Key (List ℕ) → Course → List Delivery → Course
course_of exchange key course [] = course
course_of exchange key course (delivery ∷ earlier) =
    course_heard exchange.port (delivery.moment + (starts exchange).pending.ends_in)
    (exchange.messages delivery.message) key (course_of exchange key course earlier)
