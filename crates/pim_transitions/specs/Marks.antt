-- Marks: what the call that lists candidates notes of a message, before it looks machines up. A
-- mark has the form of an event. These definitions serve private steps alone.
use Rattle.std.specs.Prelude.{◌≡◌, ℕ, Bool, true, false, ◌&&◌, nat_eq, if◌then◌else◌, List, [], ◌∷◌}
use Rattle.std.specs.Cmp.Lexicographic.{pointwise}
use Rattle.std.specs.Option.{is_some}
use Rattle.std.specs.Ordering.{is_lt}
use Rattle.std.specs.List.{AllByRecursion, filter, flat_map, list_any}
use Rattle.pim_down.specs.declared.machines.key.What.{What}
use Rattle.pim_down.specs.declared.machines.key.Key.{Key}
use Rattle.pim_down.specs.declared.machines.machine.Record.{Record}
use Rattle.pim_down.specs.Key.{key_cmp, same_key}
use Rattle.pim_down.specs.Records.{machine_at}
use Rattle.pim_down.specs.After.{is_machine_after}
use Rattle.pim_down.specs.Hearing.{Event, key_of, is_star_join, is_rpt, is_rpt_of}
use Rattle.pim_transitions.specs.declared.candidate.Candidate.{Candidate}
use Rattle.pim_transitions.specs.Affected.{is_reached}

-- ---- order

-- The first of these marks does not come before the mark.
abbrev pub IsUpTo : Event → List Event → Type 0
IsUpTo mark [] = Unit {0}
IsUpTo mark (next ∷ marks) = is_lt (key_cmp (key_of 0 next) (key_of 0 mark)) ≡ false

-- The marks are in key order; those of one machine are side by side.
unfoldable pub Rise : List Event → Type 0
Rise [] = Unit {0}
Rise (mark ∷ marks) = IsUpTo mark marks × Rise marks

-- Both marks are of the same machine.
abbrev pub same_mark : Event → Event → Bool
same_mark one other = same_key (key_of 0 one) (key_of 0 other)

-- Both lists have the same marks of each machine, in the same order.
abbrev pub KeepTheirOrder : List Event → List Event → Type 0
KeepTheirOrder these those =
    (mark : Event) → filter (same_mark mark) those ≡ filter (same_mark mark) these

-- The first of these marks is of the same machine as the mark.
abbrev pub is_repeated : Event → List Event → Bool
is_repeated mark [] = false
is_repeated mark (next ∷ marks) = same_mark mark next

-- The mark, unless the first of these marks is of its machine.
abbrev pub if_last : Event → List Event → List Event
if_last mark marks = if is_repeated mark marks then [] else mark ∷ []

-- The marks without those that the next one repeats.
unfoldable pub lasts : List Event → List Event
lasts [] = []
lasts (mark ∷ marks) = if is_repeated mark marks then lasts marks else mark ∷ lasts marks

-- The candidate of a mark, with its machine.
abbrev pub candidate_of : ℕ → List (Record (List ℕ)) → Event → Candidate (List ℕ)
candidate_of port records mark =
    record {
      key = key_of port mark;
      before = machine_at (key_of port mark) records;
      joins = mark.joins;
    }

-- ---- the (S,G,rpt) machines that a Join(*,G) reaches

-- The mark of a record, if it is of an (S,G,rpt) machine.
abbrev pub rpt_mark : Record (List ℕ) → List Event
rpt_mark held =
    if is_rpt held.key.what
    then record { joins = false; group = held.key.group; what = held.key.what } ∷ [] else []

-- The marks of the (S,G,rpt) machines of a group on a port that come after a machine.
abbrev pub rpt_marks : ℕ → List ℕ → What (List ℕ) → List (Record (List ℕ)) → List Event
rpt_marks port group what records =
    flat_map rpt_mark (filter (is_machine_after port group what) records)

-- The machine of the key is marked.
abbrev pub is_marked : ℕ → Key (List ℕ) → List Event → Bool
is_marked port key marks = list_any (λ mark. same_key (key_of port mark) key) marks

-- The key is of a held (S,G,rpt) machine of the group on the port.
abbrev pub is_held_rpt : ℕ → List (Record (List ℕ)) → List ℕ → Key (List ℕ) → Bool
is_held_rpt port records group key = is_rpt_of port group key && is_some (machine_at key records)

-- The marks have each held (S,G,rpt) machine of the group on the port.
abbrev pub HaveRptsOf : ℕ → List (Record (List ℕ)) → List Event → List ℕ → Type 0
HaveRptsOf port records marks group =
    (key : Key (List ℕ)) → is_held_rpt port records group key ≡ true →
    is_marked port key marks ≡ true

-- The event is a Join(*,G) of the group.
abbrev pub is_star_join_of : List ℕ → Event → Bool
is_star_join_of group event = is_star_join event && pointwise nat_eq event.group group

-- The mark is no Join, and the events reach its machine.
pub record IsStarMark (port : ℕ) (events : List Event) (records : List (Record (List ℕ)))
    (mark : Event) : Type 0 where
  pub no_join : mark.joins ≡ false
  pub reached : is_reached port events records (key_of port mark) ≡ true

-- The new marks are the old ones and those of the group's held (S,G,rpt) machines. Where some
-- events have a Join(*,G) of the group, these are such as they reach.
pub record AddRptsOf (port : ℕ) (records : List (Record (List ℕ))) (group : List ℕ)
    (old new : List Event) : Type 0 where
  pub added : HaveRptsOf port records new group
  pub kept : (key : Key (List ℕ)) → is_marked port key old ≡ true → is_marked port key new ≡ true
  pub each : (events : List Event) → list_any (is_star_join_of group) events ≡ true →
      AllByRecursion (IsStarMark port events records) old →
      AllByRecursion (IsStarMark port events records) new

-- A Join(*,G) of these events has the machine of the key in its group, as a held (S,G,rpt) one.
abbrev pub star_reaches : ℕ → List Event → List (Record (List ℕ)) → Key (List ℕ) → Bool
star_reaches port events records key =
    list_any (λ event. is_star_join event && is_held_rpt port records event.group key) events

-- The new marks are the old ones and those of the machines that a Join(*,G) of these events
-- reaches.
pub record AddStarsOf (port : ℕ) (records : List (Record (List ℕ))) (events : List Event)
    (old new : List Event) : Type 0 where
  pub added : (key : Key (List ℕ)) → star_reaches port events records key ≡ true →
      is_marked port key new ≡ true
  pub kept : (key : Key (List ℕ)) → is_marked port key old ≡ true → is_marked port key new ≡ true
  pub each : (all : List Event) →
      ((test : Event → Bool) → list_any test events ≡ true → list_any test all ≡ true) →
      AllByRecursion (IsStarMark port all records) old →
      AllByRecursion (IsStarMark port all records) new

-- The marks have each machine that a Join(*,G) of these events reaches, and none that no event
-- does.
pub record AreStarMarks (port : ℕ) (events : List Event) (records : List (Record (List ℕ)))
    (marks : List Event) : Type 0 where
  pub each : AllByRecursion (IsStarMark port events records) marks
  pub all : (key : Key (List ℕ)) → star_reaches port events records key ≡ true →
      is_marked port key marks ≡ true
