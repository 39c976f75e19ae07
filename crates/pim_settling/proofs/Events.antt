-- What a message makes of a machine is what it makes of its course.
use Rattle.pim_settling.proofs.Words.{◌≡◌, inl, inr, ℕ, ◌+◌, ◌-◌, ◌≤◌, Bool, true, false, cond, ◌&&◌, List, [], ◌∷◌, Option, None}
use Rattle.pim_settling.proofs.Words.{Some, refl, sym, ap, subst, ◌∙◌, arith, eqb, pointwise, nat_eq, false≢true, What, Star}
use Rattle.pim_settling.proofs.Words.{Source, Rpt, Key, State, Join, PrunePending, Prune, PruneTmp, PrunePendingTmp, Machine}
use Rattle.pim_settling.proofs.Words.{same_key, Start, machine_in, greater, on_join, on_prune, on_star_join, on_rpt_prune, on_end}
use Rattle.pim_settling.proofs.Words.{Event, key_of, on_own, is_rpt, is_star_join, is_rpt_on, is_rpt_of, on_rpts, effect, effects}
use Rattle.pim_settling.proofs.Words.{at_end, heard_at, KeysAreDistinct, Course, absent, stays, waits, IsHeld, IsPending, IsOnBy}
use Rattle.pim_settling.proofs.Words.{IsOn, pruned, excepted, course_of_unit, Within, after_event, after_events, at_the_end}
use Rattle.pim_settling.proofs.Words.{course_heard}

-- ---- a machine within a message

-- behind a Join(*,G) it is in the state beside its own
abbrev pub IsMarked : Bool → What (List ℕ) → ℕ → Course → Option Machine → Type 0
IsMarked false what now course held = IsOn what now course held
IsMarked true what now course held = (is_rpt what ≡ true) × IsOnBy PruneTmp PrunePendingTmp what now course held

held_in : (state : State) (expires_in : Option ℕ) (held : Option Machine) → held ≡ machine_in state expires_in None → IsHeld state held
held_in state expires_in held e = record { expires_in = expires_in; is = e }

module _ (now : ℕ) (start : Start) where
  abbrev ends : ℕ
  ends = now + start.pending.ends_in

  -- a prune-pending timer that starts now
  starts_waiting : (state : State) (expires_in : Option ℕ) (held : Option Machine) → held ≡ machine_in state expires_in (Some start.pending) → (now ≤ ends) × IsPending state (ends - now) held
  starts_waiting state expires_in held e =
      let left : start.pending.ends_in ≡ ends - now = omega arith in (
        omega arith,
        record {
          expires_in = expires_in;
          several = start.pending.several;
          is = e ∙ ap (λ n. machine_in state expires_in (Some (record { ends_in = n; several = start.pending.several }))) left;
        },
      )

  -- ---- Join of (*,G) and (S,G)

  joins_at : (what : What (List ℕ)) (course : Course) (held : Option Machine) → is_rpt what ≡ false → IsOn what now course held → IsHeld Join (on_join start held)
  unfolding on_join
  joins_at (Rpt source) course held r is = absurd (false≢true (sym r))
  joins_at what absent held r is = held_in Join start.expires_in (on_join start held) (ap (on_join start) is)
  joins_at Star stays held r is = held_in Join (greater is.expires_in start.expires_in) (on_join start held) (ap (on_join start) is.is)
  joins_at (Source source) stays held r is = held_in Join (greater is.expires_in start.expires_in) (on_join start held) (ap (on_join start) is.is)
  joins_at Star (waits until) held r (inl waiting) = held_in Join (greater waiting.1.expires_in start.expires_in) (on_join start held) (ap (on_join start) waiting.1.is)
  joins_at (Source source) (waits until) held r (inl waiting) = held_in Join (greater waiting.1.expires_in start.expires_in) (on_join start held) (ap (on_join start) waiting.1.is)
  joins_at Star (waits until) held r (inr other) = held_in Join start.expires_in (on_join start held) (ap (on_join start) other.1)
  joins_at (Source source) (waits until) held r (inr other) = held_in Join start.expires_in (on_join start held) (ap (on_join start) other.1)

  -- ---- Prune of (*,G) and (S,G)

  prunes_star : (course : Course) (held : Option Machine) → IsOn Star now course held → IsOn Star now (pruned ends course) (on_prune start held)
  unfolding on_prune
  prunes_star absent held is = ap (on_prune start) is
  prunes_star stays held is = inl (starts_waiting PrunePending is.expires_in (on_prune start held) (ap (on_prune start) is.is))
  prunes_star (waits until) held (inl waiting) = inl (waiting.0, record { expires_in = waiting.1.expires_in; several = waiting.1.several; is = ap (on_prune start) waiting.1.is })
  prunes_star (waits until) held (inr other) = inr (other.0, ap (on_prune start) other.1)

  prunes_source : (source : List ℕ) (course : Course) (held : Option Machine) → IsOn (Source source) now course held → IsOn (Source source) now (pruned ends course) (on_prune start held)
  unfolding on_prune
  prunes_source source absent held is = ap (on_prune start) is
  prunes_source source stays held is = inl (starts_waiting PrunePending is.expires_in (on_prune start held) (ap (on_prune start) is.is))
  prunes_source source (waits until) held (inl waiting) = inl (waiting.0, record { expires_in = waiting.1.expires_in; several = waiting.1.several; is = ap (on_prune start) waiting.1.is })
  prunes_source source (waits until) held (inr other) = inr (other.0, ap (on_prune start) other.1)

  -- ---- Prune of (S,G,rpt)

  excepts : (starred : Bool) (source : List ℕ) (course : Course) (held : Option Machine) → IsMarked starred (Rpt source) now course held → IsOn (Rpt source) now (excepted ends course) (on_rpt_prune start held)
  unfolding on_rpt_prune
  excepts false source absent held is = inl (starts_waiting PrunePending start.expires_in (on_rpt_prune start held) (ap (on_rpt_prune start) is))
  excepts false source stays held is = held_in Prune (greater is.expires_in start.expires_in) (on_rpt_prune start held) (ap (on_rpt_prune start) is.is)
  excepts false source (waits until) held (inl waiting) = inl (waiting.0, record { expires_in = waiting.1.expires_in; several = waiting.1.several; is = ap (on_rpt_prune start) waiting.1.is })
  excepts false source (waits until) held (inr other) = inr (other.0, held_in Prune (greater other.1.expires_in start.expires_in) (on_rpt_prune start held) (ap (on_rpt_prune start) other.1.is))
  excepts true source absent held is = inl (starts_waiting PrunePending start.expires_in (on_rpt_prune start held) (ap (on_rpt_prune start) is.1))
  excepts true source stays held is = held_in Prune (greater is.1.expires_in start.expires_in) (on_rpt_prune start held) (ap (on_rpt_prune start) is.1.is)
  excepts true source (waits until) held (r, inl waiting) =
      inl (waiting.0, record { expires_in = greater waiting.1.expires_in start.expires_in; several = waiting.1.several; is = ap (on_rpt_prune start) waiting.1.is })
  excepts true source (waits until) held (r, inr other) = inr (other.0, held_in Prune (greater other.1.expires_in start.expires_in) (on_rpt_prune start held) (ap (on_rpt_prune start) other.1.is))

  -- ---- an event at its own machine

  unmarked : (starred : Bool) (what : What (List ℕ)) (course : Course) (held : Option Machine) → is_rpt what ≡ false → IsMarked starred what now course held → IsOn what now course held
  unmarked false what course held r is = is
  unmarked true what course held r is = absurd (false≢true (sym r ∙ is.0))

  own_course : (joins starred : Bool) (what : What (List ℕ)) (course : Course) (held : Option Machine) → IsMarked starred what now course held → IsOn what now (course_of_unit joins what ends course) (on_own joins what start held)
  own_course true starred Star course held is = joins_at Star course held refl (unmarked starred Star course held refl is)
  own_course true starred (Source source) course held is = joins_at (Source source) course held refl (unmarked starred (Source source) course held refl is)
  own_course true starred (Rpt source) course held is = refl
  own_course false starred Star course held is = prunes_star course held (unmarked starred Star course held refl is)
  own_course false starred (Source source) course held is = prunes_source source course held (unmarked starred (Source source) course held refl is)
  own_course false starred (Rpt source) course held is = excepts starred source course held is

  -- ---- Join(*,G) at an (S,G,rpt) machine

  stars : (starred : Bool) (source : List ℕ) (course : Course) (held : Option Machine) → IsMarked starred (Rpt source) now course held → IsMarked true (Rpt source) now course (on_star_join held)
  unfolding on_star_join
  stars false source absent held is = (refl, ap on_star_join is)
  stars false source stays held is = (refl, held_in PruneTmp is.expires_in (on_star_join held) (ap on_star_join is.is))
  stars false source (waits until) held (inl waiting) = (refl, inl (waiting.0, record { expires_in = waiting.1.expires_in; several = waiting.1.several; is = ap on_star_join waiting.1.is }))
  stars false source (waits until) held (inr other) = (refl, inr (other.0, held_in PruneTmp other.1.expires_in (on_star_join held) (ap on_star_join other.1.is)))
  stars true source absent held is = (refl, ap on_star_join is.1)
  stars true source stays held is = (refl, held_in PruneTmp is.1.expires_in (on_star_join held) (ap on_star_join is.1.is))
  stars true source (waits until) held (r, inl waiting) = (refl, inl (waiting.0, record { expires_in = waiting.1.expires_in; several = waiting.1.several; is = ap on_star_join waiting.1.is }))
  stars true source (waits until) held (r, inr other) = (refl, inr (other.0, held_in PruneTmp other.1.expires_in (on_star_join held) (ap on_star_join other.1.is)))

  -- ---- End of Message

  goes : (what : What (List ℕ)) (course : Course) (held : Option Machine) → IsMarked true what now course held → on_end held ≡ None
  unfolding on_end
  goes Star course held is = absurd (false≢true is.0)
  goes (Source source) course held is = absurd (false≢true is.0)
  goes (Rpt source) absent held is = ap on_end is.1
  goes (Rpt source) stays held is = ap on_end is.1.is
  goes (Rpt source) (waits until) held (r, inl waiting) = ap on_end waiting.1.is
  goes (Rpt source) (waits until) held (r, inr other) = ap on_end other.1.is

  remains : (what : What (List ℕ)) (course : Course) (held : Option Machine) → IsOn what now course held → on_end held ≡ held
  unfolding on_end
  remains what absent held is = ap on_end is ∙ sym is
  remains Star stays held is = ap on_end is.is ∙ sym is.is
  remains (Source source) stays held is = ap on_end is.is ∙ sym is.is
  remains (Rpt source) stays held is = ap on_end is.is ∙ sym is.is
  remains what (waits until) held (inl waiting) = ap on_end waiting.1.is ∙ sym waiting.1.is
  remains Star (waits until) held (inr other) = ap on_end other.1 ∙ sym other.1
  remains (Source source) (waits until) held (inr other) = ap on_end other.1 ∙ sym other.1
  remains (Rpt source) (waits until) held (inr other) = ap on_end other.1.is ∙ sym other.1.is

-- ---- the events of a message, and its end

and_true : (a b : Bool) → (a && b) ≡ true → a ≡ true
and_true true b e = refl
and_true false b e = absurd (false≢true e)

and_other : (a b : Bool) → (a && b) ≡ true → b ≡ true
and_other true b e = e
and_other false b e = absurd (false≢true e)

module _ (keys : KeysAreDistinct) (port now : ℕ) (start : Start) where
  -- where a machine is within a message; one that a Join(*,G) came to is one of the port
  pub record IsWithin (key : Key (List ℕ)) (within : Within) (held : Option Machine) : Type 0 where
    pub marked : IsMarked within.starred key.what now within.course held
    pub of_port : within.starred ≡ true → is_rpt_on port key ≡ true

  stars_at : (what : What (List ℕ)) (starred : Bool) (course : Course) (held : Option Machine) → is_rpt what ≡ true → IsMarked starred what now course held → IsMarked true what now course (on_star_join held)
  stars_at Star starred course held r is = absurd (false≢true r)
  stars_at (Source source) starred course held r is = absurd (false≢true r)
  stars_at (Rpt source) starred course held r is = stars now start starred source course held is

  on_event : (event : Event) (key : Key (List ℕ)) (within : Within) (held : Option Machine) → IsWithin key within held
      → IsWithin key (after_event port (now + start.pending.ends_in) event key within) (effect port start event key held)
  on_event event key within held is = by (same_key (key_of port event) key) refl
    where
      ends : ℕ
      ends = now + start.pending.ends_in

      rpts_by : (b : Bool) → is_rpt_of port event.group key ≡ b → IsWithin key (cond b (record { course = within.course; starred = true }) within) (cond b (on_star_join held) held)
      rpts_by false e = is
      rpts_by true e =
          let on = and_true (is_rpt_on port key) (pointwise nat_eq key.group event.group) e in
          record { marked = stars_at key.what within.starred within.course held (and_other (eqb key.port port) (is_rpt key.what) on) is.marked; of_port = λ s. on }

      star_by : (b : Bool) → IsWithin key (cond b (cond (is_rpt_of port event.group key) (record { course = within.course; starred = true }) within) within) (cond b (on_rpts port event.group key held) held)
      star_by false = is
      star_by true = rpts_by (is_rpt_of port event.group key) refl

      by : (b : Bool) → same_key (key_of port event) key ≡ b
          → IsWithin key (cond b (record { course = course_of_unit event.joins event.what ends within.course; starred = false }) (cond (is_star_join event) (cond (is_rpt_of port event.group key) (record { course = within.course; starred = true }) within) within))
          (cond b (on_own event.joins event.what start held) (cond (is_star_join event) (on_rpts port event.group key held) held))
      by true s =
          let same : event.what ≡ key.what = ap (λ (k : Key (List ℕ)). k.what) ((keys (key_of port event) key).1.0 s) in
          record {
            marked = subst (λ (what : What (List ℕ)). IsOn key.what now (course_of_unit event.joins what ends within.course) (on_own event.joins what start held)) (sym same)
                (own_course now start event.joins within.starred key.what within.course held is.marked);
            of_port = λ t. absurd (false≢true t);
          }
      by false s = star_by (is_star_join event)

  on_events : (events : List Event) (key : Key (List ℕ)) (within : Within) (held : Option Machine) → IsWithin key within held
      → IsWithin key (after_events port (now + start.pending.ends_in) events key within) (effects port start events key held)
  unfolding after_events effects
  on_events [] key within held is = is
  on_events (event ∷ events) key within held is =
      on_events events key (after_event port (now + start.pending.ends_in) event key within) (effect port start event key held) (on_event event key within held is)

  on_the_end : (key : Key (List ℕ)) (within : Within) (held : Option Machine) → IsWithin key within held → IsOn key.what now (at_the_end within) (at_end port key held)
  on_the_end key within held is = by within.starred is.marked is.of_port
    where
      by : (starred : Bool) → IsMarked starred key.what now within.course held → (starred ≡ true → is_rpt_on port key ≡ true) → IsOn key.what now (cond starred absent within.course) (at_end port key held)
      by true marked of_port = ap (λ b. cond b (on_end held) held) (of_port refl) ∙ goes now start key.what within.course held marked
      by false marked of_port =
          elim (is_rpt_on port key) as (λ b. IsOn key.what now within.course (cond b (on_end held) held)) [
            | true ↦ subst (λ (m : Option Machine). IsOn key.what now within.course m) (sym (remains now start key.what within.course held marked)) marked
            | false ↦ marked
          ]

  -- the message leads the machine where it leads its course
  pub heard_on : (events : List Event) (key : Key (List ℕ)) (course : Course) (held : Option Machine) → IsOn key.what now course held
      → IsOn key.what now (course_heard port (now + start.pending.ends_in) events key course) (heard_at port start events key held)
  heard_on events key course held is =
      on_the_end key (after_events port (now + start.pending.ends_in) events key (record { course = course; starred = false })) (effects port start events key held)
      (on_events events key (record { course = course; starred = false }) held (record { marked = is; of_port = λ s. absurd (false≢true s) }))
