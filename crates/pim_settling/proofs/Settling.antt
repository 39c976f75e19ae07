-- A port that hears a change is settled at the form that is wanted now.
use Rattle.pim_settling.proofs.Words.{◌≡◌, ◌⊎◌, inl, inr, ℕ, ◌+◌, ◌-◌, ◌≤◌, Bool, true, false, cond, ◌||◌, not, List, [], ◌∷◌}
use Rattle.pim_settling.proofs.Words.{Option, None, Some, eqb, refl, sym, ap, subst, ◌∙◌, arith, list_any, AllByRecursion}
use Rattle.pim_settling.proofs.Words.{is_some, false≢true, eqb-true, AddressFamily, What, Star, Source, Rpt, Key, State, Join}
use Rattle.pim_settling.proofs.Words.{PrunePending, Prune, PruneTmp, PrunePendingTmp, Pending, Machine, Record, same_key, is_rpt}
use Rattle.pim_settling.proofs.Words.{machine_at, state_of_machine, machine_in, KeysAreDistinct, GroupForm, is_listed, group_in}
use Rattle.pim_settling.proofs.Words.{joins_if, prunes_if, rpt_settles, machine_settles, Exchange, has_unit_of, Delivery}
use Rattle.pim_settling.proofs.Words.{is_delivered, final_moment, state_wanted, Course, absent, stays, waits, IsHeld, IsOn}
use Rattle.pim_settling.proofs.Words.{IsPast, course_of_unit, course_of, carried_if, rpt_carried, CarriesChange, ChangeSettles}
use Rattle.pim_down.specs.Sound.{IsReal, has_state, is_pending}
use Rattle.pim_settling.proofs.Courses.{Machines, courses_are_kept}
use Rattle.pim_settling.proofs.Messages.{is_starred}
use Rattle.pim_settling.proofs.Actions.{or_right, at, reported, star_comes, IsReached, comes_here, reached, left_alone, star_ends}

-- ---- the course of a machine that is held

abbrev pub course_by : ℕ → Option Pending → Course
course_by now None = stays
course_by now (Some timer) = waits (now + timer.ends_in)

abbrev pub course_now : ℕ → Option Machine → Course
course_now now None = absent
course_now now (Some machine) = course_by now machine.pending

-- a sound machine is on it
module _ (family : AddressFamily) (ports now : ℕ) where
  waiting_on : (key : Key (List ℕ)) (state : State) (expires_in : Option ℕ) (timer : Pending) → is_pending state ≡ true → IsOn key.what now (waits (now + timer.ends_in)) (machine_in state expires_in (Some timer))
  waiting_on key PrunePending expires_in timer e =
      let left : timer.ends_in ≡ (now + timer.ends_in) - now = omega arith in
      inl (
        omega arith,
        record {
          expires_in = expires_in;
          several = timer.several;
          is = ap (λ n. machine_in PrunePending expires_in (Some (record { ends_in = n; several = timer.several }))) left;
        },
      )
  waiting_on key Join expires_in timer e = absurd (false≢true e)
  waiting_on key Prune expires_in timer e = absurd (false≢true e)
  waiting_on key PruneTmp expires_in timer e = absurd (false≢true e)
  waiting_on key PrunePendingTmp expires_in timer e = absurd (false≢true e)

  state_is : (what : What (List ℕ)) (state : State) → has_state what state ≡ true → is_pending state ≡ false → state ≡ state_wanted what
  state_is Star Join h p = refl
  state_is Star PrunePending h p = absurd (false≢true (sym p))
  state_is Star Prune h p = absurd (false≢true h)
  state_is Star PruneTmp h p = absurd (false≢true h)
  state_is Star PrunePendingTmp h p = absurd (false≢true h)
  state_is (Source source) Join h p = refl
  state_is (Source source) PrunePending h p = absurd (false≢true (sym p))
  state_is (Source source) Prune h p = absurd (false≢true h)
  state_is (Source source) PruneTmp h p = absurd (false≢true h)
  state_is (Source source) PrunePendingTmp h p = absurd (false≢true h)
  state_is (Rpt source) Prune h p = refl
  state_is (Rpt source) PrunePending h p = absurd (false≢true (sym p))
  state_is (Rpt source) Join h p = absurd (false≢true h)
  state_is (Rpt source) PruneTmp h p = absurd (false≢true h)
  state_is (Rpt source) PrunePendingTmp h p = absurd (false≢true h)

  real_on : (key : Key (List ℕ)) (machine : Machine) → IsReal family ports (record { key = key; machine = machine }) → IsOn key.what now (course_now now (Some machine)) (Some machine)
  real_on key machine real = by machine.pending refl
    where
      by : (pending : Option Pending) → machine.pending ≡ pending → IsOn key.what now (course_by now pending) (Some machine)
      by None p =
          let quiet : is_pending machine.state ≡ false = sym real.timer ∙ ap is_some p in
          let state = state_is key.what machine.state real.state quiet in
          record { expires_in = machine.expires_in; is = λ i. Some (record { state = state i; expires_in = machine.expires_in; pending = p i }) }
      by (Some timer) p =
          let busy : is_pending machine.state ≡ true = sym real.timer ∙ ap is_some p in
          let whole : machine_in machine.state machine.expires_in (Some timer) ≡ Some machine = λ i. Some (record { state = machine.state; expires_in = machine.expires_in; pending = sym p i }) in
          subst (λ (m : Option Machine). IsOn key.what now (waits (now + timer.ends_in)) m) whole (waiting_on key machine.state machine.expires_in timer busy)

  real_at : (keys : KeysAreDistinct) (records : List (Record (List ℕ))) → AllByRecursion (IsReal family ports) records → (key : Key (List ℕ)) (machine : Machine) → machine_at key records ≡ Some machine → IsReal family ports (record { key = key; machine = machine })
  unfolding machine_at
  real_at keys [] all key machine e = absurd cc
  real_at keys (held ∷ records) all key machine e =
      elim (same_key key held.key) as (λ b. same_key key held.key ≡ b → cond b (Some held.machine) (machine_at key records) ≡ Some machine → IsReal family ports (record { key = key; machine = machine })) [
        | true ↦ λ s f.
            let same : held.machine ≡ machine = cc in
            let own : held ≡ record { key = key; machine = machine } = λ i. record { key = sym ((keys key held.key).1.0 s) i; machine = same i } in
            subst (IsReal family ports) own all.0
        | false ↦ λ s f. real_at keys records all.1 key machine f
      ] refl e

  pub sound_on : (keys : KeysAreDistinct) (records : List (Record (List ℕ))) → AllByRecursion (IsReal family ports) records → (key : Key (List ℕ)) → IsOn key.what now (course_now now (machine_at key records)) (machine_at key records)
  sound_on keys records all key = by (machine_at key records) refl
    where
      by : (held : Option Machine) → machine_at key records ≡ held → IsOn key.what now (course_now now held) held
      by None e = refl
      by (Some machine) e = real_on key machine (real_at keys records all key machine e)

-- ---- from the state to the course

abbrev pub kept_if : Bool → Course
kept_if true = stays
kept_if false = absent

module _ (now : ℕ) where
  -- a machine in the state that its unit asks for, with a prune-pending timer, is on no course
  no_timer : (what : What (List ℕ)) (machine : Machine) (timer : Pending) → machine.pending ≡ Some timer → machine.state ≡ state_wanted what → IsOn what now (waits (now + timer.ends_in)) (Some machine) → ⊥
  no_timer Star machine timer p s (inr other) = let crossed : Some machine ≡ None = other.1 in absurd cc
  no_timer (Source source) machine timer p s (inr other) = let crossed : Some machine ≡ None = other.1 in absurd cc
  no_timer (Rpt source) machine timer p s (inr other) =
      let none : machine.pending ≡ None = cc in
      let crossed : Some timer ≡ None = sym p ∙ none in
      absurd cc
  no_timer Star machine timer p s (inl waiting) =
      let pending : machine.state ≡ PrunePending = cc in
      let crossed : Join ≡ PrunePending = sym s ∙ pending in
      absurd cc
  no_timer (Source source) machine timer p s (inl waiting) =
      let pending : machine.state ≡ PrunePending = cc in
      let crossed : Join ≡ PrunePending = sym s ∙ pending in
      absurd cc
  no_timer (Rpt source) machine timer p s (inl waiting) =
      let pending : machine.state ≡ PrunePending = cc in
      let crossed : Prune ≡ PrunePending = sym s ∙ pending in
      absurd cc

  steady : (what : What (List ℕ)) (held : Option Machine) → state_of_machine held ≡ Some (state_wanted what) → IsOn what now (course_now now held) held → course_now now held ≡ stays
  steady what None s is = absurd cc
  steady what (Some machine) s is = by machine.pending refl is
    where
      by : (pending : Option Pending) → machine.pending ≡ pending → IsOn what now (course_by now pending) (Some machine) → course_by now pending ≡ stays
      by None p on = refl
      by (Some timer) p on = let state : machine.state ≡ state_wanted what = cc in absurd (no_timer what machine timer p state on)

  gone : (held : Option Machine) → not (is_some (state_of_machine held)) ≡ true → course_now now held ≡ absent
  gone None s = refl
  gone (Some machine) s = absurd (false≢true s)

  in_join : (state : Option State) → joins_if true state ≡ true → state ≡ Some Join
  in_join None e = absurd (false≢true e)
  in_join (Some Join) e = refl
  in_join (Some PrunePending) e = absurd (false≢true e)
  in_join (Some Prune) e = absurd (false≢true e)
  in_join (Some PruneTmp) e = absurd (false≢true e)
  in_join (Some PrunePendingTmp) e = absurd (false≢true e)

  in_prune : (state : Option State) → prunes_if true state ≡ true → state ≡ Some Prune
  in_prune None e = absurd (false≢true e)
  in_prune (Some Prune) e = refl
  in_prune (Some Join) e = absurd (false≢true e)
  in_prune (Some PrunePending) e = absurd (false≢true e)
  in_prune (Some PruneTmp) e = absurd (false≢true e)
  in_prune (Some PrunePendingTmp) e = absurd (false≢true e)

  pub joined_course : (what : What (List ℕ)) (asked : Bool) (held : Option Machine) → state_wanted what ≡ Join → joins_if asked (state_of_machine held) ≡ true → IsOn what now (course_now now held) held → course_now now held ≡ kept_if asked
  joined_course what true held a e is = steady what held (in_join (state_of_machine held) e ∙ ap Some (sym a)) is
  joined_course what false held a e is = gone held e

  pub pruned_course : (source : List ℕ) (excepted : Bool) (held : Option Machine) → prunes_if excepted (state_of_machine held) ≡ true → IsOn (Rpt source) now (course_now now held) held → course_now now held ≡ kept_if excepted
  pruned_course source true held e is = steady (Rpt source) held (in_prune (state_of_machine held) e) is
  pruned_course source false held e is = gone held e

  -- under no star, in Prune or in NoInfo
  pub either_course : (source : List ℕ) (held : Option Machine) → rpt_settles None source (state_of_machine held) ≡ true → IsOn (Rpt source) now (course_now now held) held → (course_now now held ≡ stays) ⊎ (course_now now held ≡ absent)
  either_course source held e is = by (prunes_if true (state_of_machine held)) refl e
    where
      by : (b : Bool) → prunes_if true (state_of_machine held) ≡ b → (b || not (is_some (state_of_machine held))) ≡ true → (course_now now held ≡ stays) ⊎ (course_now now held ≡ absent)
      by true p f = inl (steady (Rpt source) held (in_prune (state_of_machine held) p) is)
      by false p f = inr (gone held f)

-- ---- from the course to the state

module _ (moment : ℕ) where
  kept_state : (state : State) (held : Option Machine) → IsHeld state held → state_of_machine held ≡ Some state
  kept_state state held is = ap state_of_machine is.is

  kept_now : (what : What (List ℕ)) (held : Option Machine) → IsPast what moment stays held → state_of_machine held ≡ Some (state_wanted what)
  kept_now what held past = kept_state (state_wanted what) held past

  absent_now : (what : What (List ℕ)) (held : Option Machine) → IsPast what moment absent held → state_of_machine held ≡ None
  absent_now what held past = ap state_of_machine past

  -- (*,G) and (S,G)
  pub joined_if : (what : What (List ℕ)) (asked : Bool) (held : Option Machine) → state_wanted what ≡ Join → IsPast what moment (kept_if asked) held → joins_if asked (state_of_machine held) ≡ true
  joined_if what true held a past = ap (joins_if true) (kept_now what held past ∙ ap Some a)
  joined_if what false held a past = ap (joins_if false) (absent_now what held past)

  -- a prune-pending timer that is over led to NoInfo
  pub over : (what : What (List ℕ)) (until : ℕ) (held : Option Machine) → state_wanted what ≡ Join → until ≤ moment → IsPast what moment (waits until) held → joins_if false (state_of_machine held) ≡ true
  over Star until held a least (inl waiting) = absurd (omega (arith, least, waiting.0))
  over (Source source) until held a least (inl waiting) = absurd (omega (arith, least, waiting.0))
  over Star until held a least (inr other) = ap (λ m. joins_if false (state_of_machine m)) other.1
  over (Source source) until held a least (inr other) = ap (λ m. joins_if false (state_of_machine m)) other.1
  over (Rpt source) until held a least past = absurd cc

  -- (S,G,rpt)
  pub pruned_if : (source : List ℕ) (excepted : Bool) (held : Option Machine) → IsPast (Rpt source) moment (kept_if excepted) held → prunes_if excepted (state_of_machine held) ≡ true
  pruned_if source true held past = ap (prunes_if true) (kept_now (Rpt source) held past)
  pruned_if source false held past = ap (prunes_if false) (absent_now (Rpt source) held past)

  pub pruned_over : (source : List ℕ) (until : ℕ) (held : Option Machine) → until ≤ moment → IsPast (Rpt source) moment (waits until) held → prunes_if true (state_of_machine held) ≡ true
  pruned_over source until held least (inl waiting) = absurd (omega (arith, least, waiting.0))
  pruned_over source until held least (inr other) = ap (prunes_if true) (kept_state Prune held other.1)

  pub either_if : (source : List ℕ) (course : Course) (held : Option Machine) → (course ≡ stays) ⊎ (course ≡ absent) → IsPast (Rpt source) moment course held → rpt_settles None source (state_of_machine held) ≡ true
  either_if source course held (inl same) past = ap (rpt_settles None source) (kept_now (Rpt source) held (subst (λ (c : Course). IsPast (Rpt source) moment c held) same past))
  either_if source course held (inr same) past = ap (rpt_settles None source) (absent_now (Rpt source) held (subst (λ (c : Course). IsPast (Rpt source) moment c held) same past))

-- ---- one machine

came_any : (exchange : Exchange) (test : ℕ → Bool) (message : ℕ) (deliveries : List Delivery) → is_delivered message deliveries ≡ true → test message ≡ true → list_any (λ delivery. test delivery.message) deliveries ≡ true
came_any exchange test message [] d n = absurd (false≢true d)
came_any exchange test message (delivery ∷ earlier) d n =
    elim (eqb delivery.message message) as (λ b. eqb delivery.message message ≡ b → (b || is_delivered message earlier) ≡ true → (test delivery.message || list_any (λ delivery. test delivery.message) earlier) ≡ true) [
      | true ↦ λ s f. ap (λ b. b || list_any (λ delivery. test delivery.message) earlier) (ap test (eqb-true delivery.message message s) ∙ n)
      | false ↦ λ s f. or_right (test delivery.message) (list_any (λ delivery. test delivery.message) earlier) (came_any exchange test message earlier f n)
    ] refl d

module _ (keys : KeysAreDistinct) (exchange : Exchange) (old new : List GroupForm) (deliveries : List Delivery) (carries : CarriesChange exchange old new deliveries) (now moment : ℕ)
    (enough : final_moment exchange.timing.override_ms deliveries ≤ moment) (group : List ℕ) where
  abbrev before : GroupForm
  before = group_in group old

  abbrev wanted : GroupForm
  wanted = group_in group new

  abbrev told_here : What (List ℕ) → Option Bool
  told_here what = reported keys exchange.port old new group what

  abbrev heard : What (List ℕ) → Course → Course
  heard what course = course_of exchange (at keys exchange.port old new group what) course deliveries

  reaches : (what : What (List ℕ)) (course : Course) (joins : Bool) → told_here what ≡ Some joins → IsReached keys exchange old new carries.only group what course joins deliveries
  reaches what course joins t =
      let came = carries.all group what joins t in
      reached keys exchange old new carries.only group what course joins t deliveries
      (came_any exchange (λ message. has_unit_of exchange.port (at keys exchange.port old new group what) (exchange.messages message)) came.message deliveries came.delivered came.has_unit)

  star_came : (source : List ℕ) (course : Course) → told_here Star ≡ Some true → list_any (comes_here keys exchange old new carries.only group (Rpt source) course) deliveries ≡ true
  star_came source course t =
      let came = carries.all group Star true t in
      came_any exchange (λ message. is_starred keys exchange.port (at keys exchange.port old new group (Rpt source)) (exchange.messages message)) came.message deliveries came.delivered
      (star_comes keys exchange.port old new group source (exchange.messages came.message) t (carries.only came.message) came.has_unit)

  -- where nothing is told of it, it stays as it was
  alone : (what : What (List ℕ)) (course : Course) (held : Option Machine) → told_here what ≡ None → (told_here Star ≡ Some true → is_rpt what ≡ true → ⊥) → IsPast what moment (heard what course) held → IsPast what moment course held
  alone what course held t star past = subst (λ (c : Course). IsPast what moment c held) (left_alone keys exchange old new carries.only group what course t deliveries star) past

  -- (*,G) and (S,G), by whether it was asked for and whether it is
  joined_settles : (what : What (List ℕ)) (was is : Bool) (course : Course) (held : Option Machine) → state_wanted what ≡ Join → is_rpt what ≡ false → told_here what ≡ carried_if was is → course ≡ kept_if was
      → IsPast what moment (heard what course) held → joins_if is (state_of_machine held) ≡ true
  joined_settles what true true course held a r t c past =
      joined_if moment what true held a (subst (λ (d : Course). IsPast what moment d held) c (alone what course held t (λ s e. absurd (false≢true (sym r ∙ e))) past))
  joined_settles what false false course held a r t c past =
      joined_if moment what false held a (subst (λ (d : Course). IsPast what moment d held) c (alone what course held t (λ s e. absurd (false≢true (sym r ∙ e))) past))
  joined_settles what false true course held a r t c past =
      let here = reaches what course true t in
      joined_if moment what true held a (subst (λ (d : Course). IsPast what moment d held) (here.is ∙ joins what here.ends course r) past)
    where
      joins : (what : What (List ℕ)) (ends : ℕ) (course : Course) → is_rpt what ≡ false → course_of_unit true what ends course ≡ stays
      joins Star ends course r = refl
      joins (Source source) ends course r = refl
      joins (Rpt source) ends course r = absurd (false≢true (sym r))
  joined_settles what true false course held a r t c past =
      let here = reaches what course false t in
      let least : here.ends ≤ moment = omega (arith, here.bound, enough) in
      over moment what here.ends held a least (subst (λ (d : Course). IsPast what moment d held) (here.is ∙ ap (course_of_unit false what here.ends) c ∙ prunes what here.ends r) past)
    where
      prunes : (what : What (List ℕ)) (ends : ℕ) → is_rpt what ≡ false → course_of_unit false what ends stays ≡ waits ends
      prunes Star ends r = refl
      prunes (Source source) ends r = refl
      prunes (Rpt source) ends r = absurd (false≢true (sym r))

  -- under no star in either an (S,G,rpt) machine stays as it was
  rpt_stays : (source : List ℕ) (course : Course) (held : Option Machine) → before.star ≡ None → wanted.star ≡ None → (course ≡ stays) ⊎ (course ≡ absent) → IsPast (Rpt source) moment (heard (Rpt source) course) held
      → rpt_settles None source (state_of_machine held) ≡ true
  rpt_stays source course held b w c past =
      let untold : told_here (Rpt source) ≡ None = ap (λ o. rpt_carried o wanted.star source) b ∙ ap (λ o. rpt_carried None o source) w in
      let unstarred : told_here Star ≡ None = ap (λ o. carried_if (is_some o) (is_some wanted.star)) b ∙ ap (λ o. carried_if false (is_some o)) w in
      either_if moment source course held c (alone (Rpt source) course held untold (λ s e. let crossed : None ≡ Some true = sym unstarred ∙ s in absurd cc) past)

  -- a star that goes leaves them
  rpt_left : (source : List ℕ) (excepted : List (List ℕ)) (course : Course) (held : Option Machine) → before.star ≡ Some excepted → wanted.star ≡ None → course ≡ kept_if (is_listed source excepted)
      → IsPast (Rpt source) moment (heard (Rpt source) course) held → rpt_settles None source (state_of_machine held) ≡ true
  rpt_left source excepted course held b w c past =
      let untold : told_here (Rpt source) ≡ None = ap (λ o. rpt_carried o wanted.star source) b ∙ ap (λ o. rpt_carried (Some excepted) o source) w in
      let unstarred : told_here Star ≡ Some false = ap (λ o. carried_if (is_some o) (is_some wanted.star)) b ∙ ap (λ o. carried_if true (is_some o)) w in
      either_if moment source course held (kept_either (is_listed source excepted) c)
      (alone (Rpt source) course held untold (λ s e. let crossed : Some false ≡ Some true = sym unstarred ∙ s in absurd cc) past)
    where
      kept_either : (b : Bool) → course ≡ kept_if b → (course ≡ stays) ⊎ (course ≡ absent)
      kept_either true e = inl e
      kept_either false e = inr e

  -- of a star that stays, the exceptions that came are pruned, those that went are joined
  rpt_kept : (source : List ℕ) (excepted exceptions : List (List ℕ)) (course : Course) (held : Option Machine) → before.star ≡ Some excepted → wanted.star ≡ Some exceptions
      → course ≡ kept_if (is_listed source excepted) → IsPast (Rpt source) moment (heard (Rpt source) course) held → prunes_if (is_listed source exceptions) (state_of_machine held) ≡ true
  rpt_kept source excepted exceptions course held b w c past = by (is_listed source exceptions) (is_listed source excepted) told_is c
    where
      told_is : told_here (Rpt source) ≡ carried_if (is_listed source exceptions) (is_listed source excepted)
      told_is = ap (λ o. rpt_carried o wanted.star source) b ∙ ap (λ o. rpt_carried (Some excepted) o source) w

      unstarred : told_here Star ≡ Some true → is_rpt (Rpt source) ≡ true → ⊥
      unstarred s e = let crossed : None ≡ Some true = sym (ap (λ o. carried_if (is_some o) (is_some wanted.star)) b ∙ ap (λ o. carried_if true (is_some o)) w) ∙ s in absurd cc

      by : (is was : Bool) → told_here (Rpt source) ≡ carried_if is was → course ≡ kept_if was → prunes_if is (state_of_machine held) ≡ true
      by true true t k = pruned_if moment source true held (subst (λ (d : Course). IsPast (Rpt source) moment d held) k (alone (Rpt source) course held t unstarred past))
      by false false t k = pruned_if moment source false held (subst (λ (d : Course). IsPast (Rpt source) moment d held) k (alone (Rpt source) course held t unstarred past))
      by false true t k =
          let here = reaches (Rpt source) course true t in
          pruned_if moment source false held (subst (λ (d : Course). IsPast (Rpt source) moment d held) here.is past)
      by true false t k =
          let here = reaches (Rpt source) course false t in
          let least : here.ends ≤ moment = omega (arith, here.bound, enough) in
          pruned_over moment source here.ends held least (subst (λ (d : Course). IsPast (Rpt source) moment d held) (here.is ∙ ap (course_of_unit false (Rpt source) here.ends) k) past)

  -- with a new star its exceptions are pruned, and all others go
  rpt_new : (source : List ℕ) (exceptions : List (List ℕ)) (course : Course) (held : Option Machine) → before.star ≡ None → wanted.star ≡ Some exceptions
      → (course ≡ stays) ⊎ (course ≡ absent) → IsPast (Rpt source) moment (heard (Rpt source) course) held → prunes_if (is_listed source exceptions) (state_of_machine held) ≡ true
  rpt_new source exceptions course held b w c past = by (is_listed source exceptions) told_is c
    where
      told_is : told_here (Rpt source) ≡ cond (is_listed source exceptions) (Some false) None
      told_is = ap (λ o. rpt_carried o wanted.star source) b ∙ ap (λ o. rpt_carried None o source) w

      starred : told_here Star ≡ Some true
      starred = ap (λ o. carried_if (is_some o) (is_some wanted.star)) b ∙ ap (λ o. carried_if false (is_some o)) w

      by : (is : Bool) → told_here (Rpt source) ≡ cond is (Some false) None → (course ≡ stays) ⊎ (course ≡ absent) → prunes_if is (state_of_machine held) ≡ true
      by false t c =
          pruned_if moment source false held
          (subst (λ (d : Course). IsPast (Rpt source) moment d held) (star_ends keys exchange old new carries.only group (Rpt source) course t deliveries (star_came source course starred)) past)
      by true t (inl k) =
          let here = reaches (Rpt source) course false t in
          pruned_if moment source true held (subst (λ (d : Course). IsPast (Rpt source) moment d held) (here.is ∙ ap (course_of_unit false (Rpt source) here.ends) k) past)
      by true t (inr k) =
          let here = reaches (Rpt source) course false t in
          let least : here.ends ≤ moment = omega (arith, here.bound, enough) in
          pruned_over moment source here.ends held least (subst (λ (d : Course). IsPast (Rpt source) moment d held) (here.is ∙ ap (course_of_unit false (Rpt source) here.ends) k) past)

  -- each machine of the group
  pub machine_ends : (what : What (List ℕ)) (held after : Option Machine) → IsOn what now (course_now now held) held → machine_settles before what (state_of_machine held) ≡ true
      → IsPast what moment (heard what (course_now now held)) after → machine_settles wanted what (state_of_machine after) ≡ true
  machine_ends Star held after on was past =
      joined_settles Star (is_some before.star) (is_some wanted.star) (course_now now held) after refl refl refl (joined_course now Star (is_some before.star) held refl was on) past
  machine_ends (Source source) held after on was past =
      joined_settles (Source source) (is_listed source before.sources) (is_listed source wanted.sources) (course_now now held) after refl refl refl
      (joined_course now (Source source) (is_listed source before.sources) held refl was on) past
  machine_ends (Rpt source) held after on was past = by before.star wanted.star refl refl
    where
      was_is : (o : Option (List (List ℕ))) → before.star ≡ o → rpt_settles o source (state_of_machine held) ≡ true
      was_is o b = ap (λ s. rpt_settles s source (state_of_machine held)) (sym b) ∙ was

      by : (o n : Option (List (List ℕ))) → before.star ≡ o → wanted.star ≡ n → rpt_settles wanted.star source (state_of_machine after) ≡ true
      by None None b w = ap (λ s. rpt_settles s source (state_of_machine after)) w ∙ rpt_stays source (course_now now held) after b w (either_course now source held (was_is None b) on) past
      by None (Some exceptions) b w =
          ap (λ s. rpt_settles s source (state_of_machine after)) w ∙ rpt_new source exceptions (course_now now held) after b w (either_course now source held (was_is None b) on) past
      by (Some excepted) None b w =
          ap (λ s. rpt_settles s source (state_of_machine after)) w
          ∙ rpt_left source excepted (course_now now held) after b w (pruned_course now source (is_listed source excepted) held (was_is (Some excepted) b) on) past
      by (Some excepted) (Some exceptions) b w =
          ap (λ s. rpt_settles s source (state_of_machine after)) w
          ∙ rpt_kept source excepted exceptions (course_now now held) after b w (pruned_course now source (is_listed source excepted) held (was_is (Some excepted) b) on) past

pub change_settles : Machines → ChangeSettles
change_settles laws family exchange old new start after deliveries moment sound settled carries hears enough =
    let on : (key : Key (List ℕ)) → IsOn key.what start.moment (course_now start.moment (machine_at key start.records)) (machine_at key start.records) = sound_on family start.ports start.moment laws.keys start.records sound.real in
    let kept = courses_are_kept laws exchange start after deliveries moment (λ key. course_now start.moment (machine_at key start.records)) sound.ascending on hears in (
      kept.0,
      λ group what.
          let key : Key (List ℕ) = record { port = exchange.port; group = group; what = what } in
          machine_ends laws.keys exchange old new deliveries carries start.moment moment enough group what (machine_at key start.records) (machine_at key after.records) (on key) (settled group what) (kept.1 key),
    )
