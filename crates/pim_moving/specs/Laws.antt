-- The laws in `src/laws.rt`.
use Rattle.std.specs.Prelude.{◌≡◌, ℕ, ◌≤◌, ◌-◌, List, length, None}
use Rattle.pim_addr.specs.declared.family.AddressFamily.{AddressFamily}
use Rattle.pim_addr.specs.Routes.{RouteTable, IsRouteTable, rp_of}
use Rattle.pim_down.specs.declared.machines.event.Timing.{Timing}
use Rattle.pim_down.specs.Hearing.{start_of}
use Rattle.pim_down.specs.Sound.{IsSound}
use Rattle.pim_form.specs.Messages.{Writing, IsWriting}
use Rattle.pim_form.specs.NormalForm.{GroupForm, IsNormal}
use Rattle.pim_form.specs.Settled.{IsSettledAt}
use Rattle.pim_form.specs.TooBig as form
use Rattle.pim_change.specs.Change.{change}
use Rattle.pim_change.specs.Written.{CarryChange}
use Rattle.pim_change.specs.TooBig as changed
use Rattle.pim_fresh.specs.Deliveries.{Delivery, IsShorter, AreAlive}
use Rattle.pim_mirror.specs.CanonicalCourse.{AreOf}
use Rattle.pim_mirror.specs.Config.{Fresh, newest_first, end_of}
use Rattle.pim_mirror.specs.Fits.{expiry_of}
use Rattle.pim_mirror.specs.Headline.{MirrorsForm}
use Rattle.pim_router.specs.Course.{RouterReport}
use Rattle.pim_router.specs.State.{RouterState}
use Rattle.pim_settling.specs.Hearing.{NoneExpires}
use Rattle.pim_moving.specs.Changing.{AreBetween, IsFormToward, StandsAt, KnowsUntil, NoneEndsOnTheWay, IsGiven}
use Rattle.pim_moving.specs.Changing.{HasMoved}

-- A router is settled at one form. It hears the messages of the change to another form, in any
-- order and however often. From the final moment of these deliveries on it is settled at the other
-- form, and wants exactly what that form means. By the writer's route table both forms are toward
-- the writer's upstream neighbour.
abbrev pub ChangeMovesARouter : Type 0
ChangeMovesARouter = (family : AddressFamily) (table : RouteTable) (writing : Writing) (timing : Timing)
    (old new : List GroupForm) (messages : List (List ℕ)) (deliveries : List Delivery) (moment : ℕ)
    (start after : RouterState) → IsRouteTable family table → IsWriting family writing →
    IsFormToward family table writing.upstream old → IsFormToward family table writing.upstream new →
    CarryChange family writing (rp_of family table) old new messages →
    StandsAt family old start → KnowsUntil family table writing timing moment start →
    IsGiven family writing timing messages deliveries moment start after →
    HasMoved family table writing new moment start after

-- No Expiry Timer ends on the way if each that runs at the start has more left than there is until
-- the last moment, and so has each that a message starts.
abbrev pub LongTimersLast : Type 0
LongTimersLast = (family : AddressFamily) (table : RouteTable) (writing : Writing) (timing : Timing)
    (old new : List GroupForm) (messages : List (List ℕ)) (deliveries : List Delivery) (moment : ℕ)
    (start : RouterState) → IsRouteTable family table → IsWriting family writing →
    IsFormToward family table writing.upstream old → IsFormToward family table writing.upstream new →
    CarryChange family writing (rp_of family table) old new messages →
    IsSound family start.machines → KnowsUntil family table writing timing moment start →
    AreOf (length messages) deliveries → AreBetween start.machines.moment deliveries moment →
    NoneExpires moment start.machines →
    IsShorter (moment - start.machines.moment) (start_of writing.holdtime timing).expires_in →
    NoneEndsOnTheWay family writing messages start deliveries moment

-- A mirror of a form is settled at it. None of its Expiry Timers ends by a moment at which each
-- message came last less than its holdtime ago.
abbrev pub MirrorIsSettled : Type 0
MirrorIsSettled = (family : AddressFamily) (table : RouteTable) (writing : Writing) (form : List GroupForm)
    (messages : List (List ℕ)) (fresh : Fresh) (moment last : ℕ) (reported : List RouterReport) (later : RouterState) →
    IsNormal family form → end_of fresh ≤ moment → moment ≤ last →
    AreAlive (expiry_of writing.holdtime) last (newest_first fresh) →
    MirrorsForm family table writing form messages fresh moment reported later →
    IsSettledAt 0 form later.machines.records × NoneExpires last later.machines

-- If each star of the new form fits a message alone, so does each star that a change to it says.
abbrev pub ChangeFits : Type 0
ChangeFits = (family : AddressFamily) (budget : ℕ) (old new : List GroupForm) →
    form.too_big family budget new ≡ None → changed.too_big family budget (change old new) ≡ None
