-- What a message makes of a machine's course: all that names the machine says the same.
use Rattle.pim_settling.proofs.Words.{◌≡◌, ℕ, Bool, true, false, cond, ◌&&◌, ◌||◌, List, [], ◌∷◌, refl, sym, ap, ◌∙◌, list_any}
use Rattle.pim_settling.proofs.Words.{false≢true, What, Star, Source, Rpt, Key, same_key, Event, key_of, is_rpt_of, is_star_join}
use Rattle.pim_settling.proofs.Words.{KeysAreDistinct, has_unit_of, Course, absent, stays, waits, course_of_unit, Within}
use Rattle.pim_settling.proofs.Words.{after_event, after_events, at_the_end, course_heard}

-- a second Join or Prune changes nothing
pub absorbs : (joins : Bool) (what : What (List ℕ)) (ends later : ℕ) (course : Course) → course_of_unit joins what later (course_of_unit joins what ends course) ≡ course_of_unit joins what ends course
absorbs true Star ends later course = refl
absorbs true (Source source) ends later course = refl
absorbs true (Rpt source) ends later course = refl
absorbs false Star ends later absent = refl
absorbs false Star ends later stays = refl
absorbs false Star ends later (waits until) = refl
absorbs false (Source source) ends later absent = refl
absorbs false (Source source) ends later stays = refl
absorbs false (Source source) ends later (waits until) = refl
absorbs false (Rpt source) ends later absent = refl
absorbs false (Rpt source) ends later stays = refl
absorbs false (Rpt source) ends later (waits until) = refl

pub or_false : (a b : Bool) → (a || b) ≡ false → (a ≡ false) × (b ≡ false)
or_false true b e = absurd (false≢true (sym e))
or_false false b e = (refl, e)

cond_and : {A : Type 0} (a b : Bool) (one other : A) → cond a (cond b one other) other ≡ cond (a && b) one other
cond_and true b one other = refl
cond_and false b one other = refl

module _ (keys : KeysAreDistinct) (port : ℕ) (key : Key (List ℕ)) where
  -- the event names the machine; it is a Join(*,G) that comes to it
  abbrev pub names : Event → Bool
  names event = same_key (key_of port event) key

  abbrev pub stars : Event → Bool
  stars event = is_star_join event && is_rpt_of port event.group key

  abbrev pub is_starred : List Event → Bool
  is_starred events = list_any stars events

  -- each event that names the machine joins it, or each prunes it; behind a Join(*,G) that comes to it, one names it
  unfoldable pub Tells : Bool → List Event → Type 0
  Tells joins [] = Unit {0}
  Tells joins (event ∷ events) = (names event ≡ true → event.joins ≡ joins) × (stars event ≡ true → has_unit_of port key events ≡ true) × Tells joins events

  -- where no event names it, none comes to it
  pub unstarred : (joins : Bool) (events : List Event) → Tells joins events → has_unit_of port key events ≡ false → is_starred events ≡ false
  unfolding Tells
  unstarred joins [] carries unnamed = refl
  unstarred joins (event ∷ events) carries unnamed =
      let parts = or_false (names event) (has_unit_of port key events) unnamed in
      let rest = unstarred joins events carries.2 parts.1 in
      elim (stars event) as (λ b. (b ≡ true → has_unit_of port key events ≡ true) → (b || is_starred events) ≡ false) [
        | true ↦ λ follow. absurd (false≢true (sym parts.1 ∙ follow refl))
        | false ↦ λ follow. rest
      ] carries.1

  module _ (ends : ℕ) where
    event_is : (event : Event) (within : Within) → after_event port ends event key within
        ≡ cond (names event) (record { course = course_of_unit event.joins event.what ends within.course; starred = false }) (cond (stars event) (record { course = within.course; starred = true }) within)
    event_is event within =
        ap (cond (names event) (record { course = course_of_unit event.joins event.what ends within.course; starred = false })) (cond_and (is_star_join event) (is_rpt_of port event.group key) (record { course = within.course; starred = true }) within)

    named_event : (joins : Bool) (event : Event) (within : Within) → names event ≡ true → event.joins ≡ joins → after_event port ends event key within ≡ record { course = course_of_unit joins key.what ends within.course; starred = false }
    named_event joins event within n j =
        let same : event.what ≡ key.what = ap (λ (k : Key (List ℕ)). k.what) ((keys (key_of port event) key).1.0 n) in
        event_is event within
        ∙ ap (λ b. cond b (record { course = course_of_unit event.joins event.what ends within.course; starred = false }) (cond (stars event) (record { course = within.course; starred = true }) within)) n
        ∙ ap (λ b. record { course = course_of_unit b event.what ends within.course; starred = false }) j
        ∙ ap (λ what. record { course = course_of_unit joins what ends within.course; starred = false }) same

    other_event : (event : Event) (within : Within) → names event ≡ false → after_event port ends event key within ≡ cond (stars event) (record { course = within.course; starred = true }) within
    other_event event within n =
        event_is event within
        ∙ ap (λ b. cond b (record { course = course_of_unit event.joins event.what ends within.course; starred = false }) (cond (stars event) (record { course = within.course; starred = true }) within)) n

    untouched : (events : List Event) (within : Within) → has_unit_of port key events ≡ false → is_starred events ≡ false → after_events port ends events key within ≡ within
    unfolding after_events
    untouched [] within n s = refl
    untouched (event ∷ events) within n s =
        let ns = or_false (names event) (has_unit_of port key events) n in
        let ss = or_false (stars event) (is_starred events) s in
        ap (after_events port ends events key) (other_event event within ns.0 ∙ ap (λ b. cond b (record { course = within.course; starred = true }) within) ss.0)
        ∙ untouched events within ns.1 ss.1

    named_events : (joins : Bool) (events : List Event) (within : Within) → Tells joins events → has_unit_of port key events ≡ true → after_events port ends events key within ≡ record { course = course_of_unit joins key.what ends within.course; starred = false }
    unfolding after_events Tells
    named_events joins [] within carries n = absurd (false≢true n)
    named_events joins (event ∷ events) within carries n =
        elim (names event) as (λ b. names event ≡ b → (b || has_unit_of port key events) ≡ true → after_events port ends events key (after_event port ends event key within) ≡ record { course = course_of_unit joins key.what ends within.course; starred = false }) [
          | true ↦ λ s f.
              ap (after_events port ends events key) (named_event joins event within s (carries.0 s))
              ∙ elim (has_unit_of port key events) as (λ c. has_unit_of port key events ≡ c → after_events port ends events key (record { course = course_of_unit joins key.what ends within.course; starred = false }) ≡ record { course = course_of_unit joins key.what ends within.course; starred = false }) [
                | true ↦ λ t.
                    named_events joins events (record { course = course_of_unit joins key.what ends within.course; starred = false }) carries.2 t
                    ∙ ap (λ c. record { course = c; starred = false }) (absorbs joins key.what ends ends within.course)
                | false ↦ λ t. untouched events (record { course = course_of_unit joins key.what ends within.course; starred = false }) t (unstarred joins events carries.2 t)
              ] refl
          | false ↦ λ s f.
              ap (after_events port ends events key) (other_event event within s)
              ∙ elim (stars event) as (λ c. after_events port ends events key (cond c (record { course = within.course; starred = true }) within) ≡ record { course = course_of_unit joins key.what ends within.course; starred = false }) [
                | true ↦ named_events joins events (record { course = within.course; starred = true }) carries.2 f
                | false ↦ named_events joins events within carries.2 f
              ]
        ] refl n

    marks : (events : List Event) (within : Within) → has_unit_of port key events ≡ false → (within.starred || is_starred events) ≡ true → (after_events port ends events key within).starred ≡ true
    unfolding after_events
    marks [] within n s = kept within.starred s
      where
        kept : (b : Bool) → (b || false) ≡ true → b ≡ true
        kept true e = refl
        kept false e = e
    marks (event ∷ events) within n s =
        let ns = or_false (names event) (has_unit_of port key events) n in
        ap (λ w. (after_events port ends events key w).starred) (other_event event within ns.0)
        ∙ elim (stars event) as (λ c. (within.starred || (c || is_starred events)) ≡ true → (after_events port ends events key (cond c (record { course = within.course; starred = true }) within)).starred ≡ true) [
          | true ↦ λ t. marks events (record { course = within.course; starred = true }) ns.1 refl
          | false ↦ λ t. marks events within ns.1 t
        ] s

    -- ---- a message

    pub heard_named : (joins : Bool) (events : List Event) (course : Course) → Tells joins events → has_unit_of port key events ≡ true → course_heard port ends events key course ≡ course_of_unit joins key.what ends course
    heard_named joins events course carries n = ap at_the_end (named_events joins events (record { course = course; starred = false }) carries n)

    pub heard_other : (events : List Event) (course : Course) → has_unit_of port key events ≡ false → is_starred events ≡ false → course_heard port ends events key course ≡ course
    heard_other events course n s = ap at_the_end (untouched events (record { course = course; starred = false }) n s)

    pub heard_starred : (events : List Event) (course : Course) → has_unit_of port key events ≡ false → is_starred events ≡ true → course_heard port ends events key course ≡ absent
    heard_starred events course n s = ap (λ b. cond b absent (after_events port ends events key (record { course = course; starred = false })).course) (marks events (record { course = course; starred = false }) n s)
