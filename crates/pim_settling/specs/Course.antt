-- The course of a machine that hears Joins and Prunes, apart from its Expiry Timer: Figure 2,
-- Figure 3 and Figure 4 of RFC 7761 (4.5.1 to 4.5.3).
use Rattle.std.specs.Prelude.{◌≡◌, ◌⊎◌, ℕ, ◌-◌, ◌≤◌, ◌<◌, Bool, true, false, if◌then◌else◌}
use Rattle.std.specs.Prelude.{List, [], ◌∷◌, Option, None, Some}
use Rattle.pim_down.specs.declared.machines.key.What.{What}
use Rattle.pim_down.specs.declared.machines.key.What.TheVariants.{Star, Source, Rpt}
use Rattle.pim_down.specs.declared.machines.key.Key.{Key}
use Rattle.pim_down.specs.declared.machines.machine.State.{State}
use Rattle.pim_down.specs.declared.machines.machine.State.TheVariants.{PrunePending}
use Rattle.pim_down.specs.declared.machines.machine.Machine.{Machine}
use Rattle.pim_down.specs.Key.{same_key}
use Rattle.pim_down.specs.Tables.{machine_in}
use Rattle.pim_down.specs.Hearing.{Event, key_of, is_rpt_of, is_star_join}
use Rattle.pim_fresh.specs.Expected.{state_wanted}

-- A machine isn't held; it is held, (*,G) and (S,G) in Join, (S,G,rpt) in Prune; or it is in
-- Prune-Pending up to a moment, and then where its timer leads.
pub data Course : Type 0 where
  absent : Course
  stays : Course
  waits : ℕ → Course

-- Where the Prune-Pending Timer leads: (*,G) and (S,G) to NoInfo, (S,G,rpt) to Prune.
abbrev pub led : What (List ℕ) → Course
led Star = absent
led (Source source) = absent
led (Rpt source) = stays

-- ---- a machine on a course

-- The machine is in this state, without a Prune-Pending Timer.
pub record IsHeld (state : State) (held : Option Machine) : Type 0 where
  pub expires_in : Option ℕ
  pub is : held ≡ machine_in state expires_in None

-- The machine is in this state, with `left` milliseconds left of its Prune-Pending Timer.
pub record IsPending (state : State) (left : ℕ) (held : Option Machine) : Type 0 where
  pub expires_in : Option ℕ
  pub several : Bool
  pub is : held ≡ machine_in state expires_in (Some (record { ends_in = left; several = several }))

-- `kept` is the state of a machine that stays, `pending` that of a machine that waits.
module _ (kept pending : State) where
  -- The machine isn't held, or is held in the state `kept`.
  abbrev pub IsAt : Course → Option Machine → Type 0
  IsAt absent held = held ≡ None
  IsAt stays held = IsHeld kept held
  IsAt (waits until) held = ⊥

  -- At the moment `now` the machine is on this course, with these two states.
  abbrev pub IsOnBy : What (List ℕ) → ℕ → Course → Option Machine → Type 0
  IsOnBy what now absent held = IsAt absent held
  IsOnBy what now stays held = IsAt stays held
  IsOnBy what now (waits until) held =
      ((now ≤ until) × IsPending pending (until - now) held) ⊎ ((until ≤ now) × IsAt (led what) held)

-- At this moment the machine is on this course. A Prune-Pending Timer that ends at this moment may
-- have fired or not.
abbrev pub IsOn : What (List ℕ) → ℕ → Course → Option Machine → Type 0
IsOn what now course held = IsOnBy (state_wanted what) PrunePending what now course held

-- At this moment the machine is on this course, and a Prune-Pending Timer that ends by then has
-- fired.
abbrev pub IsPast : What (List ℕ) → ℕ → Course → Option Machine → Type 0
IsPast what now absent held = held ≡ None
IsPast what now stays held = IsHeld (state_wanted what) held
IsPast what now (waits until) held =
    ((now < until) × IsPending PrunePending (until - now) held)
    ⊎ ((until ≤ now) × IsAt (state_wanted what) PrunePending (led what) held)

-- ---- what is heard

-- The course of (*,G) or (S,G) after a Prune whose Prune-Pending Timer would end at this moment
-- (Figure 2 and Figure 3). A second Prune in Prune-Pending changes nothing.
abbrev pub pruned : ℕ → Course → Course
pruned ends absent = absent
pruned ends stays = waits ends
pruned ends (waits until) = waits until

-- The course of (S,G,rpt) after a Prune whose Prune-Pending Timer would end at this moment (see
-- Figure 4). In Prune and Prune-Pending it changes nothing.
abbrev pub excepted : ℕ → Course → Course
excepted ends absent = waits ends
excepted ends stays = stays
excepted ends (waits until) = waits until

-- The course after a Join (`true`) or a Prune of the machine.
abbrev pub course_of_unit : Bool → What (List ℕ) → ℕ → Course → Course
course_of_unit true Star ends course = stays
course_of_unit true (Source source) ends course = stays
course_of_unit true (Rpt source) ends course = absent
course_of_unit false Star ends course = pruned ends course
course_of_unit false (Source source) ends course = pruned ends course
course_of_unit false (Rpt source) ends course = excepted ends course

-- A machine within a message: its course, and whether a Join(*,G) came to an (S,G,rpt) machine and
-- no entry since names it (PruneTmp or Prune-Pending-Tmp in Figure 4). At the end of the message
-- the machine then goes to NoInfo.
pub record Within : Type 0 where
  pub course : Course
  pub starred : Bool

-- The machine after one event of a message.
abbrev pub after_event : ℕ → ℕ → Event → Key (List ℕ) → Within → Within
after_event port ends event key within =
    if same_key (key_of port event) key
    then record { course = course_of_unit event.joins event.what ends within.course; starred = false }
    else (if is_star_join event
    then (if is_rpt_of port event.group key then record { course = within.course; starred = true } else within)
    else within)

-- The machine after some events of a message.
unfoldable pub after_events : ℕ → ℕ → List Event → Key (List ℕ) → Within → Within
after_events port ends [] key within = within
after_events port ends (event ∷ events) key within =
    after_events port ends events key (after_event port ends event key within)

-- The course at the end of the message.
abbrev pub at_the_end : Within → Course
at_the_end within = if within.starred then absent else within.course

-- The course of a machine after a message of these events.
abbrev pub course_heard : ℕ → ℕ → List Event → Key (List ℕ) → Course → Course
course_heard port ends events key course =
    at_the_end (after_events port ends events key (record { course = course; starred = false }))
