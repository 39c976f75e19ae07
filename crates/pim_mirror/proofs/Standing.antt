-- A fresh router that hears messages alone is there, stands at its final moment, and goes on from there.
use Rattle.pim_mirror.proofs.Words.{◌≡◌, ℕ, List, [], ◌∷◌, ◌++◌, map, Option, None, Some, refl, sym, subst, arith, append_assoc}
use Rattle.pim_mirror.proofs.Words.{Ok, Err, ◌<◌, ◌≤◌, Bool, true, false, nat_lt, flat_map, ltb-true, ltb-false, AddressFamily}
use Rattle.pim_mirror.proofs.Words.{RouteTable, IsRouteTable, What, Downstream, Writing, IsWriting, Delivery, IsTimely, AreAlive}
use Rattle.pim_mirror.proofs.Words.{last_of, Step, Echo, Refresh, Reached, Input, RouterReport, echo, refresh, verdict, runs_to}
use Rattle.pim_mirror.proofs.Words.{takes, Reaches, IsCourse, RouterState, new_router, Runs, Fresh, newest_first, end_of}
use Rattle.pim_mirror.proofs.Words.{setup_of, Fits, expiry_of, AreMessagesOf, all_entries, HearsAlone, IsInWindow, IsAt}
use Rattle.pim_mirror.proofs.Words.{RoomIsForTheUnits, FreshRouterMirrors, FreshRouterSendsNoEcho, FreshRouterKnowsTheWriter}
use Rattle.pim_mirror.proofs.Words.{FreshRouterIsThere, IsMirrorOf, MirrorAnswersForTheForm}
use Rattle.pim_mirror.specs.declared.mirroring.MirrorFault.TheVariants as fault
use Rattle.pim_router.specs.Laws.{RunHasOneEnd, RunGoesOn, EveryListHasACourse}
use Rattle.pim_mirror.specs.Mirror.{delivery_inputs, inputs_of, first_needed, GoesThrough}
use Rattle.pim_mirror.proofs.CourseSteps.{parts, last_run}

-- at its last delivery's moment no message is missed
alive_now : (expiry : Option ℕ) (moment : ℕ) (deliveries : List Delivery) → IsTimely expiry moment deliveries → AreAlive expiry moment deliveries
unfolding IsTimely last_of
alive_now expiry moment [] timely = λ message last came. absurd (never last came)
  where
    never : (last : ℕ) → ◌≡◌ {A = Option ℕ} None (Some last) → ⊥
    never last e = cc
alive_now expiry moment (delivery ∷ earlier) timely = timely.1

-- ---- a router that reached a moment

record CameFrom (moment : ℕ) (after : RouterState) : Type 0 where
  from : RouterState
  runs : Runs moment from Reached after

came_from : (moment : ℕ) (reported : List RouterReport) (start after : RouterState) → Reaches moment reported start after → CameFrom moment after
unfolding Reaches
came_from moment [] start after reaches = record { from = start; runs = reaches }
came_from moment (echo port group what ∷ more) start after reaches = came_from moment more reaches.0 after reaches.2
came_from moment (refresh ∷ more) start after reaches = came_from moment more reaches.0 after reaches.2
came_from moment (verdict of_packet ∷ more) start after reaches = absurd reaches

module _ (one_end : RunHasOneEnd) (goes_on : RunGoesOn) (moment : ℕ) (after : RouterState) (came : CameFrom moment after) where
  -- another run to the moment reaches it at once
  at_once : (next : RouterState) (answer : Step (List ℕ)) → Runs moment after answer next → (Reached ≡ answer) × (after ≡ next)
  at_once next answer runs =
      one_end moment came.from after next Reached answer came.runs (goes_on moment moment came.from after next answer (omega arith) came.runs runs)

  no_refresh : ◌≡◌ {A = Step (List ℕ)} Reached Refresh → ⊥
  no_refresh e = cc

  no_echo : (port : ℕ) (group : List ℕ) (what : What (List ℕ)) → ◌≡◌ {A = Step (List ℕ)} Reached (Echo port group what) → ⊥
  no_echo port group what e = cc

  stands_there : (reported : List RouterReport) (next : RouterState) → Reaches moment reported after next → IsAt moment after after
  unfolding Reaches
  stands_there [] next reaches =
      record { reported = []; reaches = subst (λ (end : RouterState). Runs moment after Reached end) (sym (at_once next Reached reaches).1) reaches }
  stands_there (echo port group what ∷ more) next reaches = absurd (no_echo port group what (at_once reaches.0 (Echo port group what) reaches.1).0)
  stands_there (refresh ∷ more) next reaches = absurd (no_refresh (at_once reaches.0 Refresh reaches.1).0)
  stands_there (verdict of_packet ∷ more) next reaches = absurd reaches

-- ---- a fresh router

-- the course over what a router is given, up to the final moment, where it stands
module _ (every : EveryListHasACourse) (one_end : RunHasOneEnd) (goes_on : RunGoesOn) (family : AddressFamily) (messages : List (List ℕ)) (fresh : Fresh) (needed : Option ℕ) (router : RouterState)
    (goes : GoesThrough family messages fresh needed router) where
  pub stands : IsAt (end_of fresh) router router
  stands =
      let hellos : List Input = map (λ packet. takes packet) goes.hellos in
      let deliveries : List Input = flat_map (delivery_inputs family messages fresh.sender) fresh.deliveries in
      let split = sym (append_assoc hellos deliveries (runs_to (end_of fresh) ∷ [])) in
      let two = parts family (hellos ++ deliveries) (runs_to (end_of fresh) ∷ []) goes.reported (new_router (setup_of fresh)) router (subst (λ (inputs : List Input). IsCourse family inputs goes.reported (new_router (setup_of fresh)) router) split goes.course) in
      let run = last_run family (end_of fresh) two.said two.between router two.second in
      let again = every family (runs_to (end_of fresh) ∷ []) router in
      let next = last_run family (end_of fresh) again.reported router again.after again.course in
      stands_there one_end goes_on (end_of fresh) router (came_from (end_of fresh) run.said two.between router run.reaches) next.said again.after next.reaches

  pub further : (moment : ℕ) → (later : RouterState) × IsAt moment router later
  further moment =
      let more = every family (runs_to moment ∷ []) router in
      let end = last_run family moment more.reported router more.after more.course in
      (more.after, record { reported = end.said; reaches = end.reaches })

pub window_begins : (messages : List (List ℕ)) (writing : Writing) (table : RouteTable) (fresh : Fresh) → Fits messages writing table fresh → IsInWindow writing fresh (end_of fresh)
window_begins messages writing table fresh fits =
    record { from_the_end = omega arith; before_expiry = alive_now (expiry_of writing.holdtime) (end_of fresh) (newest_first fresh) fits.timely }

pub fresh_router_is_there : EveryListHasACourse → RunHasOneEnd → RunGoesOn → RoomIsForTheUnits → FreshRouterIsThere
fresh_router_is_there every one_end goes_on room family table writing state messages fresh hellos sound is_writing demanded fits few are =
    let whole = every family (inputs_of family messages fresh hellos) (new_router (setup_of fresh)) in
    let some : GoesThrough family messages fresh (first_needed whole.reported) whole.after = record { hellos = hellos; are_hellos = are; reported = whole.reported; course = whole.course; needed_is = refl } in
    let none : first_needed whole.reported ≡ None =
    (room family table writing state messages fresh (first_needed whole.reported) whole.after sound is_writing demanded fits some).1.1 few in
    let course : GoesThrough family messages fresh None whole.after = record { hellos = hellos; are_hellos = are; reported = whole.reported; course = whole.course; needed_is = none } in
    record {
      router = whole.after;
      hears = record { fits = fits; course = course };
      window = window_begins messages writing table fresh fits;
      stands = stands every one_end goes_on family messages fresh None whole.after course;
      goes_on = further every one_end goes_on family messages fresh None whole.after course;
    }

-- ---- what `mirror` answers

isnt_none : (needed : ℕ) → ◌≡◌ {A = Option ℕ} (Some needed) None → ⊥
isnt_none needed e = cc

past : (count limit : ℕ) → (count ≤ limit → ⊥) → limit < count
past count limit over = by (nat_lt limit count) refl
  where
    by : (b : Bool) → nat_lt limit count ≡ b → limit < count
    by true e = ltb-true limit count e
    by false e = absurd (over (ltb-false limit count e))

module _ (every : EveryListHasACourse) (one_end : RunHasOneEnd) (goes_on : RunGoesOn) (room : RoomIsForTheUnits) (mirrors : FreshRouterMirrors) (quiet : FreshRouterSendsNoEcho) (knows : FreshRouterKnowsTheWriter) where
  is_mirror : (family : AddressFamily) (table : RouteTable) (writing : Writing) (state : Downstream) (messages : List (List ℕ)) (fresh : Fresh) (router : RouterState) → IsRouteTable family table → IsWriting family writing
      → (demanded : AreMessagesOf family table writing state messages) → Fits messages writing table fresh → (course : GoesThrough family messages fresh None router) → IsMirrorOf family table writing demanded.form messages fresh router course
  is_mirror family table writing state messages fresh router sound is_writing demanded fits course =
      let hears : HearsAlone family table writing messages fresh router = record { fits = fits; course = course } in
      let window = window_begins messages writing table fresh fits in
      let here = mirrors family table writing state messages fresh router router (end_of fresh) sound is_writing demanded hears window (stands every one_end goes_on family messages fresh None router course) in
      record {
        room = (room family table writing state messages fresh None router sound is_writing demanded fits course).1.0 refl;
        window = window;
        at_first = record { moment_is = here.moment_is; routes = here.routes; holds = here.holds; demanding = here.demanding; no_echo = refl };
        later = λ moment later window at. mirrors family table writing state messages fresh router later moment sound is_writing demanded hears window at;
        no_echo = quiet family table writing state messages fresh router sound is_writing demanded hears;
        knows = λ last end others. knows family table writing state messages fresh router last sound is_writing demanded hears end others;
      }

  pub answers_for_the_form : MirrorAnswersForTheForm
  answers_for_the_form family table writing state messages fresh (Ok router) sound is_writing demanded fits course =
      is_mirror family table writing state messages fresh router sound is_writing demanded fits course
  answers_for_the_form family table writing state messages fresh (Err (fault.Full needed)) sound is_writing demanded fits (after, course) =
      let is = room family table writing state messages fresh (Some needed) after sound is_writing demanded fits course in
      (past (all_entries family table writing messages fresh) fresh.limit (λ few. isnt_none needed (is.1.1 few)), sym is.0)
  answers_for_the_form family table writing state messages fresh (Err fault.Memory) sound is_writing demanded fits course = tt
