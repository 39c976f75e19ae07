-- The fresh router that heard canonical messages, and hears then those of a change.
use Rattle.pim_exchange.proofs.Words.{◌≡◌, ◌≤◌, ◌<◌, ◌^◌, ◌+◌, ◌-◌, ℕ, zero, suc, Bool, true, false, ◌&&◌, List, [], ◌∷◌, ◌++◌}
use Rattle.pim_exchange.proofs.Words.{length, None, Result, Ok, Err, inr, refl, sym, ap, subst, ◌∙◌, arith, append_assoc}
use Rattle.pim_exchange.proofs.Words.{append-nil, AllByRecursion, flat_map, false≢true, AddressFamily, RouteTable, IsRouteTable}
use Rattle.pim_exchange.proofs.Words.{rp_of, IsSound, Writing, IsWriting, AreCanonical, GroupForm, IsFormOf, demand_toward}
use Rattle.pim_exchange.proofs.Words.{SameMessagesSameDemandToward, TestFindsTheNeighbour, Delivery, IsShorter, AreAlive, Fresh}
use Rattle.pim_exchange.proofs.Words.{newest_first, end_of, expiry_of, CarriesTheForm, Passes, delivery_inputs, MirrorFault}
use Rattle.pim_exchange.proofs.Words.{ChangeMovesARouter, LongTimersLast, MirrorIsSettled, IsDemandedBy, IsTooBig, RouterState}
use Rattle.pim_exchange.proofs.Words.{fresh_interval, change_inputs, AreCarried, HearsBoth, MovedAgain, delivered_at, each_at}
use Rattle.pim_exchange.proofs.Words.{fresh_of, Demands}
use Rattle.pim_change.specs.Laws.{ChangeMessagesAreShort}
use Rattle.pim_down.specs.Time.{Downstream}
use Rattle.pim_form.specs.Settled.{IsSettledAt}
use Rattle.pim_form.specs.Toward.{via_of, rpf_neighbour, is_neighbour}
use Rattle.pim_form.specs.Wants.{wants}
use Rattle.pim_mirror.specs.CanonicalCourse.{AreOf, inputs_of}
use Rattle.pim_mirror.specs.Hellos.{timing_of}
use Rattle.pim_mirror.specs.Laws.{DemandedStarsHaveRps}
use Rattle.pim_mirror.specs.declared.mirroring.MirrorFault.TheVariants as fault
use Rattle.pim_moving.specs.Changing.{AreBetween, IsFormToward, StandsAt, KnowsUntil, NoneEndsOnTheWay, IsGiven, HasMoved}
use Rattle.pim_router.specs.Course.{Input, runs_to, IsCourse}
use Rattle.pim_router.specs.Laws.{EveryListHasACourse}
use Rattle.pim_settling.specs.Hearing.{NoneExpires}
use Rattle.pim_exchange.proofs.FreshHearings.{newest_at, newest_of, end_early, all_early, all_short, came, ends_by, alive, lasts, shorter}

-- ---- each message once, at a moment

all_of : (moment most count : ℕ) → count ≤ most → AreOf most (newest_at moment count)
unfolding newest_at
all_of moment most zero within = tt
all_of moment most (suc count) within = (omega (arith, within), all_of moment most count (omega (arith, within)))

all_between : (moment last count : ℕ) → moment ≤ last → AreBetween moment (newest_at moment count) last
unfolding newest_at AreBetween
all_between moment last zero later = later
all_between moment last (suc count) later = (later, all_between moment moment count (omega arith))

module _ (family : AddressFamily) (writing : Writing) (messages : List (List ℕ)) (moment : ℕ) where
  abbrev each : Delivery → List Input
  each = delivery_inputs family messages writing.own

  two_parts : (front back : List Delivery) → flat_map each (front ++ back) ≡ flat_map each front ++ flat_map each back
  two_parts [] back = refl
  two_parts (delivery ∷ front) back = ap (λ l. each delivery ++ l) (two_parts front back) ∙ sym (append_assoc (each delivery) (flat_map each front) (flat_map each back))

  inputs_are : (count : ℕ) → flat_map each (each_at moment count) ≡ inputs_of family writing 0 messages (newest_at moment count)
  unfolding each_at newest_at inputs_of
  inputs_are zero = refl
  inputs_are (suc count) =
      two_parts (each_at moment count) (delivered_at moment count ∷ [])
      ∙ (ap (λ l. flat_map each (each_at moment count) ++ l) (append-nil (each (delivered_at moment count)))
      ∙ ap (λ l. l ++ each (delivered_at moment count)) (inputs_are count))

early_too_by : (moment count : ℕ) → moment ≤ 3000 → AllByRecursion (λ (delivery : Delivery). delivery.moment ≤ 10 ^ 14) (each_at moment count)
early_too_by moment count early = all_early moment count (omega (arith, early))

pub early_too : (moment count : ℕ) (deliveries : List Delivery) → moment ≤ 3000 → deliveries ≡ each_at moment count → AllByRecursion (λ (delivery : Delivery). delivery.moment ≤ 10 ^ 14) deliveries
early_too moment count deliveries early same = subst (λ l. AllByRecursion (λ (delivery : Delivery). delivery.moment ≤ 10 ^ 14) l) (sym same) (early_too_by moment count early)

-- where memory is refused before anything comes, something could have come
pub wants_memory : EveryListHasACourse → (family : AddressFamily) (inputs : List Input) (router : RouterState) → Passes family inputs router (Err fault.Memory) router
wants_memory has family inputs router =
    let some = has family inputs router in
    record { reported = some.reported; after = some.after; course = some.course; passed = tt }

-- the change's messages are short enough to be heard
pub change_short : ChangeMessagesAreShort → DemandedStarsHaveRps → (family : AddressFamily) (table : RouteTable) (writing : Writing) (before change wanted : List (List ℕ)) → IsRouteTable family table → IsWriting family writing
    → AreCarried family table writing before change wanted → AllByRecursion (λ (message : List ℕ). length message < 2 ^ 32) change
change_short short stars family table writing before change wanted sound is_writing reported =
    all_short writing.budget is_writing.most change
    (short family writing (rp_of family table) reported.was.demanded.form reported.is.demanded.form change is_writing reported.was.demanded.is.normal reported.is.demanded.is.normal
    (stars family table writing.upstream reported.was.state reported.was.demanded.form sound reported.was.demanded.is) (stars family table writing.upstream reported.is.state reported.is.demanded.form sound reported.is.demanded.is) reported.reported)

-- from the writer
pub from_own : (family : AddressFamily) (messages : List (List ℕ)) (sender own : List ℕ) (moment : ℕ) (router after : RouterState) (result : Result (Unit {0}) MirrorFault) → sender ≡ own
    → Passes family (change_inputs family messages sender moment) router result after → Passes family (change_inputs family messages own moment) router result after
from_own family messages sender own moment router after result same passes = subst (λ s. Passes family (change_inputs family messages s moment) router result after) same passes

-- ---- what is asked of a neighbour

second_true : (a b : Bool) → (a && b) ≡ true → b ≡ true
second_true true b e = e
second_true false b e = absurd (false≢true e)

-- its form is toward this neighbour
asked_is_toward : TestFindsTheNeighbour → (family : AddressFamily) (table : RouteTable) (neighbour : List ℕ) (state : Downstream) (form : List GroupForm) → IsFormOf family (demand_toward family table neighbour state) form
    → IsFormToward family table neighbour form
asked_is_toward tests family table neighbour state form is =
    let rps = rp_of family table in
    let via = via_of family table in
    record {
      normal = is.normal;
      toward = (tests family rps via neighbour form is.normal).1 (λ source group tree valid of_group meant.
          second_true (wants state source group tree) (is_neighbour neighbour (rpf_neighbour rps via source group tree)) (is.wants source group tree valid of_group ∙ meant));
    }

-- ---- the mirror, and what is told then

-- the laws on which it rests
pub record Laws : Type 0 where
  pub moves : ChangeMovesARouter
  pub long : LongTimersLast
  pub mirrors : MirrorIsSettled
  pub same : SameMessagesSameDemandToward
  pub tests : TestFindsTheNeighbour

module _ (laws : Laws) (family : AddressFamily) (table : RouteTable) (writing : Writing) (limit : ℕ) (before change wanted : List (List ℕ))
    (sound : IsRouteTable family table) (is_writing : IsWriting family writing) (reported : AreCarried family table writing before change wanted) (router : RouterState)
    (wrote : CarriesTheForm family table writing reported.was.demanded.form before (fresh_of table writing limit before) (Ok router)) where
  abbrev its : Fresh
  its = fresh_of table writing limit before

  abbrev last : ℕ
  last = router.machines.moment + fresh_interval

  moment_is : router.machines.moment ≡ end_of its
  moment_is = wrote.answers.at_first.moment_is

  pub is_early : router.machines.moment ≤ 3000
  is_early = omega (arith, moment_is, end_early family table writing limit before)

  later : end_of its ≤ last
  later = omega (arith, moment_is)

  no_expiry : IsShorter last (expiry_of writing.holdtime)
  no_expiry = lasts writing.holdtime is_writing.long last (omega (arith, is_early))

  pub one_port : router.machines.ports ≡ 1
  one_port = (wrote.answers.knows last later tt).one_port

  all_alive : AreAlive (expiry_of writing.holdtime) last (newest_first its)
  all_alive = subst (λ (deliveries : List Delivery). AreAlive (expiry_of writing.holdtime) last deliveries) (sym (newest_of family table writing limit before)) (alive (expiry_of writing.holdtime) last (length before) no_expiry)

  settled : IsSettledAt 0 reported.was.demanded.form router.machines.records × NoneExpires last router.machines
  settled = laws.mirrors family table writing reported.was.demanded.form before its (end_of its) last [] router reported.was.demanded.is.normal (omega arith) later all_alive wrote.answers.at_first

  module _ (machines : IsSound family router.machines) where
    stands : StandsAt family reported.was.demanded.form router
    stands = record { one_port = one_port; sound = machines; settled = settled.0 }

    routes : router.routes ≡ table
    routes = wrote.answers.at_first.routes

    knows_until : KnowsUntil family table writing (timing_of its) last router
    knows_until =
        let knows = wrote.answers.knows last later tt in
        record { hears = knows.hears; same_rps = λ group is. ap (λ (t : RouteTable). rp_of family t group) routes; neighbours = knows.lasts }

    toward_was : IsFormToward family table writing.upstream reported.was.demanded.form
    toward_was = asked_is_toward laws.tests family table writing.upstream reported.was.state reported.was.demanded.form reported.was.demanded.is

    toward_is : IsFormToward family table writing.upstream reported.is.demanded.form
    toward_is = asked_is_toward laws.tests family table writing.upstream reported.is.state reported.is.demanded.form reported.is.demanded.is

    abbrev deliveries : List Delivery
    deliveries = newest_at router.machines.moment (length change)

    of_these : AreOf (length change) deliveries
    of_these = all_of router.machines.moment (length change) (length change) (omega arith)

    between : AreBetween router.machines.moment deliveries last
    between = all_between router.machines.moment last (length change) (omega arith)

    timers : NoneEndsOnTheWay family writing change router deliveries last
    timers =
        laws.long family table writing (timing_of its) reported.was.demanded.form reported.is.demanded.form change deliveries last router sound is_writing toward_was toward_is reported.reported machines knows_until of_these between settled.1
        (shorter last (expiry_of writing.holdtime) no_expiry (last - router.machines.moment) (omega arith))

    -- the change came
    module _ (after : RouterState) (passes : Passes family (change_inputs family change writing.own router.machines.moment) router (Ok tt) after) where
      given : IsGiven family writing (timing_of its) change deliveries last router after
      given = record {
        of_these = of_these;
        each_came = λ number within. came router.machines.moment number (length change) within;
        between = between;
        final = ends_by 3000 router.machines.moment (length change);
        reported = passes.reported;
        course = subst (λ (end : RouterState). IsCourse family (inputs_of family writing 0 change deliveries ++ runs_to last ∷ []) passes.reported router end) (sym passes.passed.1)
            (subst (λ (inputs : List Input). IsCourse family (inputs ++ runs_to last ∷ []) passes.reported router passes.after) (inputs_are family writing change router.machines.moment (length change)) passes.course);
        room = passes.passed.0;
        timers = timers;
      }

      moved : HasMoved family table writing reported.is.demanded.form last router after
      moved = laws.moves family table writing (timing_of its) reported.was.demanded.form reported.is.demanded.form change deliveries last router after sound is_writing toward_was toward_is reported.reported stands knows_until given

      demanding : IsFormOf family (demand_toward family table writing.upstream after.machines) reported.is.demanded.form
      demanding = moved.demanding

      routes_then : after.routes ≡ table
      routes_then = moved.routes ∙ routes

      pub fits_then : IsTooBig family writing after None
      fits_then = record {
        form = reported.is.demanded.form;
        is = subst (λ (t : RouteTable). IsFormOf family (demand_toward family t writing.upstream after.machines) reported.is.demanded.form) (sym routes_then) demanding;
        least = reported.is.fitting;
      }

      same_then : (others : List (List ℕ)) → IsDemandedBy family writing after others → others ≡ wanted
      same_then others demanded =
          (laws.same family table writing after.machines reported.is.state demanded.form reported.is.demanded.form others wanted sound is_writing
          (subst (λ (t : RouteTable). IsFormOf family (demand_toward family t writing.upstream after.machines) demanded.form) routes_then demanded.is) reported.is.demanded.is
          (subst (λ (t : RouteTable). AreCanonical family writing (rp_of family t) demanded.form others) routes_then demanded.reported) reported.is.demanded.reported).1
          (λ source group tree valid of_group. demanding.wants source group tree valid of_group ∙ sym (reported.is.demanded.is.wants source group tree valid of_group))

      hears_both : HearsBoth family table writing limit before change None
      hears_both = record {
        mirror = router;
        heard = wrote.course;
        reported = passes.reported;
        after = passes.after;
        course = passes.course;
        needed_is = passes.passed.0;
      }

      pub moved_again : (result : Result (List (List ℕ)) MirrorFault) → Demands family writing after result → MovedAgain family table writing limit before change wanted result
      moved_again (Ok others) demanded = (hears_both, same_then others demanded)
      moved_again (Err (fault.Full needed)) demanded = absurd demanded
      moved_again (Err fault.Memory) demanded = tt

  -- it did not, or not all
  pub not_moved : (why : MirrorFault) (after : RouterState) → Passes family (change_inputs family change writing.own router.machines.moment) router (Err why) after
      → MovedAgain family table writing limit before change wanted (Err why)
  not_moved (fault.Full needed) after passes = inr (record {
    mirror = router;
    heard = wrote.course;
    reported = passes.reported;
    after = passes.after;
    course = passes.course;
    needed_is = passes.passed;
  })
  not_moved fault.Memory after passes = tt
