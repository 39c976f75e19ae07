-- What deliveries that tell a change make of a machine's course.
use Rattle.pim_settling.proofs.Words.{◌≡◌, ℕ, ◌+◌, ◌≤◌, Bool, true, false, cond, ◌&&◌, ◌||◌, List, [], ◌∷◌, Option, None, Some}
use Rattle.pim_settling.proofs.Words.{eqb, refl, sym, ap, subst, ◌∙◌, arith, list_any, is_some, nat_eq, pointwise, same_text}
use Rattle.pim_settling.proofs.Words.{lists_equiv, nat_eq_equiv, false≢true, eq-eqb, eqb-true, What, Star, Source, Rpt, Key}
use Rattle.pim_settling.proofs.Words.{same_key, Event, key_of, is_rpt, is_star, is_rpt_on, is_rpt_of, is_star_join}
use Rattle.pim_settling.proofs.Words.{KeysAreDistinct, GroupForm, is_listed, exceptions_of, group_in, Exchange, starts}
use Rattle.pim_settling.proofs.Words.{has_unit_of, Delivery, is_delivered, final_moment, Course, absent, course_of_unit}
use Rattle.pim_settling.proofs.Words.{course_of, carried_if, rpt_carried, carried_of, ExceptionsFollow, CarriesOnly}
use Rattle.pim_settling.proofs.Messages.{absorbs, or_false, Tells, stars, is_starred, unstarred, heard_named, heard_other, heard_starred}

pub and_true : (a b : Bool) → (a && b) ≡ true → (a ≡ true) × (b ≡ true)
and_true true b e = (refl, e)
and_true false b e = absurd (false≢true e)

pub or_right : (a b : Bool) → b ≡ true → (a || b) ≡ true
or_right true b e = refl
or_right false b e = e

-- ---- stars

-- a Join(*,G) is told of a group without a star before, and with one now
new_star : (old new : Option (List (List ℕ))) → carried_if (is_some old) (is_some new) ≡ Some true → (old ≡ None) × (is_some new ≡ true)
new_star None None e = absurd cc
new_star None (Some exceptions) e = (refl, refl)
new_star (Some excepted) None e = let crossed : false ≡ true = cc in absurd (false≢true crossed)
new_star (Some excepted) (Some exceptions) e = absurd cc

-- under a new star only an exception is told
listed_told : (old new : Option (List (List ℕ))) (source : List ℕ) (joins : Bool) → old ≡ None → rpt_carried old new source ≡ Some joins → is_listed source (exceptions_of new) ≡ true
listed_told (Some excepted) new source joins none e = absurd cc
listed_told None None source joins none e = absurd cc
listed_told None (Some exceptions) source joins none e = by (is_listed source exceptions) refl e
  where
    by : (b : Bool) → is_listed source exceptions ≡ b → cond b (Some false) None ≡ Some joins → b ≡ true
    by true l f = refl
    by false l f = absurd cc

star_what : (what : What (List ℕ)) → is_star what ≡ true → what ≡ Star
star_what Star e = refl
star_what (Source source) e = absurd (false≢true e)
star_what (Rpt source) e = absurd (false≢true e)

module _ (keys : KeysAreDistinct) (port : ℕ) (old new : List GroupForm) (group : List ℕ) where
  abbrev pub at : What (List ℕ) → Key (List ℕ)
  at what = record { port = port; group = group; what = what }

  abbrev pub reported : What (List ℕ) → Option Bool
  reported what = carried_of (group_in group old) (group_in group new) what

  -- what is told of an event that names a machine is told of the machine
  told_there : (what : What (List ℕ)) (event : Event) → same_key (key_of port event) (at what) ≡ true → carried_of (group_in event.group old) (group_in event.group new) event.what ≡ Some event.joins → reported what ≡ Some event.joins
  told_there what event n e =
      let same : key_of port event ≡ at what = (keys (key_of port event) (at what)).1.0 n in
      let groups : event.group ≡ group = ap (λ (k : Key (List ℕ)). k.group) same in
      let whats : event.what ≡ what = ap (λ (k : Key (List ℕ)). k.what) same in
      sym (ap (λ g. carried_of (group_in g old) (group_in g new) event.what) groups ∙ ap reported whats) ∙ e

  -- a Join(*,G) that comes to a machine is one of its group
  star_group : (what : What (List ℕ)) (event : Event) → stars keys port (at what) event ≡ true → (is_star_join event ≡ true) × (group ≡ event.group) × (is_rpt what ≡ true)
  star_group what event s =
      let parts = and_true (is_star_join event) (is_rpt_of port event.group (at what)) s in
      let of = and_true (is_rpt_on port (at what)) (pointwise nat_eq group event.group) parts.1 in
      (parts.0, same_text group event.group (sym of.1), (and_true (eqb port port) (is_rpt what) of.0).1)

  star_told : (event : Event) → is_star_join event ≡ true → carried_of (group_in event.group old) (group_in event.group new) event.what ≡ Some event.joins
      → ((group_in event.group old).star ≡ None) × (is_some (group_in event.group new).star ≡ true)
  star_told event s e =
      let parts = and_true event.joins (is_star event.what) s in
      new_star (group_in event.group old).star (group_in event.group new).star
      (ap (carried_of (group_in event.group old) (group_in event.group new)) (sym (star_what event.what parts.1)) ∙ e ∙ ap Some parts.0)

  joins_as_told : (what : What (List ℕ)) (joins : Bool) (event : Event) → reported what ≡ Some joins → same_key (key_of port event) (at what) ≡ true → carried_of (group_in event.group old) (group_in event.group new) event.what ≡ Some event.joins → event.joins ≡ joins
  joins_as_told what joins event t n e = let both : Some event.joins ≡ Some joins = sym (told_there what event n e) ∙ t in cc

  follows : (what : What (List ℕ)) (joins : Bool) (event : Event) (events : List Event) → reported what ≡ Some joins → carried_of (group_in event.group old) (group_in event.group new) event.what ≡ Some event.joins
      → ExceptionsFollow port new event events → stars keys port (at what) event ≡ true → has_unit_of port (at what) events ≡ true
  follows what joins event events t e follow s = by what t (star_group what event s)
    where
      by : (what : What (List ℕ)) → reported what ≡ Some joins → (is_star_join event ≡ true) × (group ≡ event.group) × (is_rpt what ≡ true) → has_unit_of port (at what) events ≡ true
      by Star t parts = absurd (false≢true parts.2)
      by (Source source) t parts = absurd (false≢true parts.2)
      by (Rpt source) t parts =
          let star = star_told event parts.0 e in
          let there : rpt_carried (group_in event.group old).star (group_in event.group new).star source ≡ Some joins = ap (λ g. rpt_carried (group_in g old).star (group_in g new).star source) (sym parts.1) ∙ t in
          let listed = listed_told (group_in event.group old).star (group_in event.group new).star source joins star.0 there in
          subst (λ (g : List ℕ). has_unit_of port (record { port = port; group = g; what = Rpt source }) events ≡ true) (sym parts.1) (follow source parts.0 listed)

  -- ---- messages

  pub carries : (what : What (List ℕ)) (joins : Bool) (events : List Event) → reported what ≡ Some joins → CarriesOnly port old new events → Tells keys port (at what) joins events
  unfolding Tells CarriesOnly
  carries what joins [] t only = tt
  carries what joins (event ∷ events) t only = (λ n. joins_as_told what joins event t n only.0, λ s. follows what joins event events t only.0 only.1 s, carries what joins events t only.2)

  -- what isn't told isn't named
  pub unnamed : (what : What (List ℕ)) (events : List Event) → reported what ≡ None → CarriesOnly port old new events → has_unit_of port (at what) events ≡ false
  unfolding CarriesOnly
  unnamed what [] t only = refl
  unnamed what (event ∷ events) t only =
      elim (same_key (key_of port event) (at what)) as (λ b. same_key (key_of port event) (at what) ≡ b → (b || has_unit_of port (at what) events) ≡ false) [
        | true ↦ λ n. let crossed : None ≡ Some event.joins = sym t ∙ told_there what event n only.0 in absurd cc
        | false ↦ λ n. unnamed what events t only.2
      ] refl

  -- no Join(*,G) comes to (*,G) and (S,G), nor where no new star is told
  pub no_star : (what : What (List ℕ)) (events : List Event) → (reported Star ≡ Some true → is_rpt what ≡ true → ⊥) → CarriesOnly port old new events → is_starred keys port (at what) events ≡ false
  unfolding CarriesOnly
  no_star what [] t only = refl
  no_star what (event ∷ events) t only =
      elim (stars keys port (at what) event) as (λ b. stars keys port (at what) event ≡ b → (b || is_starred keys port (at what) events) ≡ false) [
        | true ↦ λ s.
            let parts = star_group what event s in
            let joined = and_true event.joins (is_star event.what) parts.0 in
            let here : reported Star ≡ Some true =
            ap (λ g. carried_of (group_in g old) (group_in g new) Star) parts.1
            ∙ ap (carried_of (group_in event.group old) (group_in event.group new)) (sym (star_what event.what joined.1)) ∙ only.0 ∙ ap Some joined.0 in
            absurd (t here parts.2)
        | false ↦ λ s. no_star what events t only.2
      ] refl

  -- a message that names the star of the group, which is new, comes to its (S,G,rpt) machines
  pub star_comes : (source : List ℕ) (events : List Event) → reported Star ≡ Some true → CarriesOnly port old new events → has_unit_of port (at Star) events ≡ true → is_starred keys port (at (Rpt source)) events ≡ true
  unfolding CarriesOnly
  star_comes source [] t only n = absurd (false≢true n)
  star_comes source (event ∷ events) t only n =
      elim (same_key (key_of port event) (at Star)) as (λ b. same_key (key_of port event) (at Star) ≡ b → (b || has_unit_of port (at Star) events) ≡ true → (stars keys port (at (Rpt source)) event || is_starred keys port (at (Rpt source)) events) ≡ true) [
        | true ↦ λ s f. ap (λ b. b || is_starred keys port (at (Rpt source)) events) (here s)
        | false ↦ λ s f. or_right (stars keys port (at (Rpt source)) event) (is_starred keys port (at (Rpt source)) events) (star_comes source events t only.2 f)
      ] refl n
    where
      here : same_key (key_of port event) (at Star) ≡ true → stars keys port (at (Rpt source)) event ≡ true
      here s =
          let same : key_of port event ≡ at Star = (keys (key_of port event) (at Star)).1.0 s in
          let joined : event.joins ≡ true = joins_as_told Star true event t s only.0 in
          let star : event.what ≡ Star = ap (λ (k : Key (List ℕ)). k.what) same in
          let groups : event.group ≡ group = ap (λ (k : Key (List ℕ)). k.group) same in
          let own : pointwise nat_eq group event.group ≡ true = subst (λ (g : List ℕ). pointwise nat_eq group g ≡ true) (sym groups) ((lists_equiv nat_eq_equiv).refl group) in
          ap (λ b. (b && is_star event.what) && ((eqb port port && true) && pointwise nat_eq group event.group)) joined
          ∙ ap (λ what. is_star what && ((eqb port port && true) && pointwise nat_eq group event.group)) star
          ∙ ap (λ b. (b && true) && pointwise nat_eq group event.group) (eq-eqb port port refl)
          ∙ own

-- ---- deliveries

module _ (keys : KeysAreDistinct) (exchange : Exchange) (old new : List GroupForm) (only : (message : ℕ) → CarriesOnly exchange.port old new (exchange.messages message)) (group : List ℕ)
    (what : What (List ℕ)) (course : Course) where
  abbrev pub here : Key (List ℕ)
  here = at keys exchange.port old new group what

  abbrev pub names_here : Delivery → Bool
  names_here delivery = has_unit_of exchange.port here (exchange.messages delivery.message)

  abbrev pub comes_here : Delivery → Bool
  comes_here delivery = is_starred keys exchange.port here (exchange.messages delivery.message)

  abbrev ends_at : Delivery → ℕ
  ends_at delivery = delivery.moment + (starts exchange).pending.ends_in

  -- what is told reached the machine, and a prune-pending timer that it started ends by the final moment
  pub record IsReached (joins : Bool) (deliveries : List Delivery) : Type 0 where
    pub ends : ℕ
    pub is : course_of exchange here course deliveries ≡ course_of_unit joins what ends course
    pub bound : ends ≤ final_moment exchange.timing.override_ms deliveries

  -- the message of a delivery that names no machine which was named didn't come before
  not_before : (delivery : Delivery) (earlier : List Delivery) → names_here delivery ≡ true → list_any names_here earlier ≡ false → is_delivered delivery.message earlier ≡ false
  not_before delivery [] n e = refl
  not_before delivery (this ∷ earlier) n e =
      let parts = or_false (names_here this) (list_any names_here earlier) e in
      elim (eqb this.message delivery.message) as (λ b. eqb this.message delivery.message ≡ b → (b || is_delivered delivery.message earlier) ≡ false) [
        | true ↦ λ s.
            let same = eqb-true this.message delivery.message s in
            absurd (false≢true (sym parts.0 ∙ ap (λ m. has_unit_of exchange.port here (exchange.messages m)) same ∙ n))
        | false ↦ λ s. not_before delivery earlier n parts.1
      ] refl

  short : (several : Bool) (override_ms : ℕ) → cond several override_ms 0 ≤ override_ms
  short true override_ms = omega arith
  short false override_ms = omega arith

  grows : (delivery : Delivery) (earlier : List Delivery) → final_moment exchange.timing.override_ms earlier ≤ final_moment exchange.timing.override_ms (delivery ∷ earlier)
  unfolding final_moment
  grows delivery earlier = omega arith

  first_bound : (delivery : Delivery) (earlier : List Delivery) → is_delivered delivery.message earlier ≡ false → ends_at delivery ≤ final_moment exchange.timing.override_ms (delivery ∷ earlier)
  unfolding final_moment
  first_bound delivery earlier first =
      let least = short exchange.timing.several exchange.timing.override_ms in
      rw (first) (omega (arith, least))

  module _ (joins : Bool) (is_told : reported keys exchange.port old new group what ≡ Some joins) where
    tells_here : (message : ℕ) → Tells keys exchange.port here joins (exchange.messages message)
    tells_here message = carries keys exchange.port old new group what joins (exchange.messages message) is_told (only message)

    step_named : (delivery : Delivery) (earlier : List Delivery) → names_here delivery ≡ true → course_of exchange here course (delivery ∷ earlier) ≡ course_of_unit joins what (ends_at delivery) (course_of exchange here course earlier)
    unfolding course_of
    step_named delivery earlier n = heard_named keys exchange.port here (ends_at delivery) joins (exchange.messages delivery.message) (course_of exchange here course earlier) (tells_here delivery.message) n

    step_other : (delivery : Delivery) (earlier : List Delivery) → names_here delivery ≡ false → course_of exchange here course (delivery ∷ earlier) ≡ course_of exchange here course earlier
    unfolding course_of
    step_other delivery earlier n =
        heard_other keys exchange.port here (ends_at delivery) (exchange.messages delivery.message) (course_of exchange here course earlier) n
        (unstarred keys exchange.port here joins (exchange.messages delivery.message) (tells_here delivery.message) n)

    unreached : (deliveries : List Delivery) → list_any names_here deliveries ≡ false → course_of exchange here course deliveries ≡ course
    unfolding course_of
    unreached [] n = refl
    unreached (delivery ∷ earlier) n =
        let parts = or_false (names_here delivery) (list_any names_here earlier) n in
        step_other delivery earlier parts.0 ∙ unreached earlier parts.1

    pub reached : (deliveries : List Delivery) → list_any names_here deliveries ≡ true → IsReached joins deliveries
    reached [] n = absurd (false≢true n)
    reached (delivery ∷ earlier) n =
        elim (names_here delivery) as (λ b. names_here delivery ≡ b → (b || list_any names_here earlier) ≡ true → IsReached joins (delivery ∷ earlier)) [
          | true ↦ λ s f.
              elim (list_any names_here earlier) as (λ c. list_any names_here earlier ≡ c → IsReached joins (delivery ∷ earlier)) [
                | true ↦ λ t.
                    let before = reached earlier t in
                    record {
                      ends = before.ends;
                      is = step_named delivery earlier s ∙ ap (course_of_unit joins what (ends_at delivery)) before.is ∙ absorbs joins what before.ends (ends_at delivery) course;
                      bound = let more = grows delivery earlier in omega (arith, before.bound, more);
                    }
                | false ↦ λ t.
                    record {
                      ends = ends_at delivery;
                      is = step_named delivery earlier s ∙ ap (course_of_unit joins what (ends_at delivery)) (unreached earlier t);
                      bound = first_bound delivery earlier (not_before delivery earlier s t);
                    }
              ] refl
          | false ↦ λ s f.
              let before = reached earlier f in
              record {
                ends = before.ends;
                is = step_other delivery earlier s ∙ before.is;
                bound = let more = grows delivery earlier in omega (arith, before.bound, more);
              }
        ] refl n

  -- where nothing is told of the machine
  module _ (none : reported keys exchange.port old new group what ≡ None) where
    never_named : (delivery : Delivery) → names_here delivery ≡ false
    never_named delivery = unnamed keys exchange.port old new group what (exchange.messages delivery.message) none (only delivery.message)

    pub left_alone : (deliveries : List Delivery) → (reported keys exchange.port old new group Star ≡ Some true → is_rpt what ≡ true → ⊥) → course_of exchange here course deliveries ≡ course
    unfolding course_of
    left_alone [] t = refl
    left_alone (delivery ∷ earlier) t =
        heard_other keys exchange.port here (ends_at delivery) (exchange.messages delivery.message) (course_of exchange here course earlier) (never_named delivery)
        (no_star keys exchange.port old new group what (exchange.messages delivery.message) t (only delivery.message))
        ∙ left_alone earlier t

    -- a new star ends it
    pub star_ends : (deliveries : List Delivery) → list_any comes_here deliveries ≡ true → course_of exchange here course deliveries ≡ absent
    unfolding course_of
    star_ends [] t = absurd (false≢true t)
    star_ends (delivery ∷ earlier) t =
        elim (comes_here delivery) as (λ b. comes_here delivery ≡ b → (b || list_any comes_here earlier) ≡ true → course_of exchange here course (delivery ∷ earlier) ≡ absent) [
          | true ↦ λ s f. heard_starred keys exchange.port here (ends_at delivery) (exchange.messages delivery.message) (course_of exchange here course earlier) (never_named delivery) s
          | false ↦ λ s f.
              heard_other keys exchange.port here (ends_at delivery) (exchange.messages delivery.message) (course_of exchange here course earlier) (never_named delivery) s
              ∙ star_ends earlier f
        ] refl t
