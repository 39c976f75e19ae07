-- A router of one port that hears how the demand of its downstream neighbour, the writer, changes
-- (RFC 7761, 4.5).
use Rattle.std.specs.Prelude.{◌≡◌, ℕ, ◌≤◌, true, List, [], ◌∷◌, ◌++◌, length, None}
use Rattle.pim_addr.specs.declared.family.AddressFamily.{AddressFamily}
use Rattle.pim_addr.specs.Address.{IsGroupAddress}
use Rattle.pim_addr.specs.Routes.{RouteTable, rp_of}
use Rattle.pim_down.specs.declared.machines.event.Timing.{Timing}
use Rattle.pim_down.specs.Sound.{IsSound}
use Rattle.pim_form.specs.Messages.{Writing}
use Rattle.pim_form.specs.NormalForm.{GroupForm, IsNormal, IsFormOf}
use Rattle.pim_form.specs.Settled.{IsSettledAt}
use Rattle.pim_form.specs.Toward.{via_of, is_toward}
use Rattle.pim_form.specs.TowardLaws.{demand_toward}
use Rattle.pim_form.specs.Wants.{wants}
use Rattle.pim_fresh.specs.Deliveries.{Delivery, final_moment}
use Rattle.pim_mirror.specs.CanonicalCourse.{AreOf, Lasts, inputs_of}
use Rattle.pim_mirror.specs.CanonicalPackets.{HearsWriter}
use Rattle.pim_mirror.specs.Mirror.{first_needed}
use Rattle.pim_router.specs.Course.{RouterReport, runs_to, IsCourse}
use Rattle.pim_router.specs.State.{RouterState}
use Rattle.pim_settling.specs.Hearing.{NoneEnds}
use Rattle.pim_settling.specs.Runs.{EachCame}

-- The moments of these deliveries, the newest first, don't fall, from `from` to `to`.
unfoldable pub AreBetween : ℕ → List Delivery → ℕ → Type 0
AreBetween from [] to = from ≤ to
AreBetween from (delivery ∷ earlier) to = (delivery.moment ≤ to) × AreBetween from earlier delivery.moment

-- A normal form that can be requested from this neighbour. By the route table of the router that
-- requests it, the neighbour is RPF'(*,G) of each star and RPF'(S,G) of each source (RFC 7761,
-- 4.1). So each star has an RP.
pub record IsFormToward (family : AddressFamily) (table : RouteTable) (neighbour : List ℕ) (form : List GroupForm)
    : Type 0 where
  pub normal : IsNormal family form
  pub toward : is_toward (rp_of family table) (via_of family table) neighbour form ≡ true

-- A router of one port whose machines are settled at the form.
pub record StandsAt (family : AddressFamily) (form : List GroupForm) (state : RouterState) : Type 0 where
  pub one_port : state.machines.ports ≡ 1
  pub sound : IsSound family state.machines
  pub settled : IsSettledAt 0 form state.machines.records

-- The router knows the writer, whose upstream neighbour it is. Each group has the same RP as in the
-- writer's route table. By this moment the time of none of the router's neighbours is over (RFC
-- 7761, 4.3.1).
pub record KnowsUntil (family : AddressFamily) (table : RouteTable) (writing : Writing) (timing : Timing) (moment : ℕ)
    (state : RouterState) : Type 0 where
  pub hears : HearsWriter writing 0 timing state
  pub same_rps : (group : List ℕ) → IsGroupAddress family group →
      rp_of family state.routes group ≡ rp_of family table group
  pub neighbours : Lasts moment state

-- ---- its Expiry Timers

module _ (family : AddressFamily) (writing : Writing) (messages : List (List ℕ)) (start : RouterState) where
  -- Once the router has received the packets of these deliveries, no Expiry Timer ends by this
  -- moment without another message.
  abbrev pub NoneEndsBehind : List Delivery → ℕ → Type 0
  NoneEndsBehind deliveries moment = (reported : List RouterReport) (state : RouterState) →
      IsCourse family (inputs_of family writing 0 messages deliveries) reported start state → NoneEnds moment state.machines

  -- No Expiry Timer ends up to this moment: none before the first delivery, none between two of
  -- them, and none after the last one.
  unfoldable pub NoneEndsOnTheWay : List Delivery → ℕ → Type 0
  NoneEndsOnTheWay [] moment = NoneEndsBehind [] moment
  NoneEndsOnTheWay (delivery ∷ earlier) moment =
      NoneEndsBehind (delivery ∷ earlier) moment × NoneEndsOnTheWay earlier delivery.moment

-- ---- what it is given

-- The router is given the packets of these messages, each at least once and no others, at moments
-- that don't fall. Then it is given a moment from the final one on. It has room for each packet,
-- and no Expiry Timer ends.
pub record IsGiven (family : AddressFamily) (writing : Writing) (timing : Timing) (messages : List (List ℕ))
    (deliveries : List Delivery) (moment : ℕ) (start after : RouterState) : Type 0 where
  pub of_these : AreOf (length messages) deliveries
  pub each_came : EachCame messages deliveries
  pub between : AreBetween start.machines.moment deliveries moment
  pub final : final_moment timing.override_ms deliveries ≤ moment
  pub reported : List RouterReport
  pub course : IsCourse family (inputs_of family writing 0 messages deliveries ++ runs_to moment ∷ []) reported start after
  pub room : first_needed reported ≡ None
  pub timers : NoneEndsOnTheWay family writing messages start deliveries moment

-- ---- what it becomes

-- At this moment the router is settled at the form, under its own route table as before. It wants
-- exactly what the form means, all of which the writer's table leads to the writer's upstream
-- neighbour (RFC 7761, 4.1 and 4.5).
pub record HasMoved (family : AddressFamily) (table : RouteTable) (writing : Writing) (form : List GroupForm)
    (moment : ℕ) (start after : RouterState) : Type 0 where
  pub moment_is : after.machines.moment ≡ moment
  pub settled : IsSettledAt 0 form after.machines.records
  pub wanted : IsFormOf family (wants after.machines) form
  pub routes : after.routes ≡ start.routes
  pub demanding : IsFormOf family (demand_toward family table writing.upstream after.machines) form
