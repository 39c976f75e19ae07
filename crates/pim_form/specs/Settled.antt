-- When a port is settled at a form: its downstream machines are exactly those that the form
-- requests (RFC 7761, 4.5.1 to 4.5.3).
use Rattle.std.specs.Prelude.{◌≡◌, ℕ, Bool, true, false, ◌&&◌, ◌||◌, not, List, [], ◌∷◌, Option, None, Some}
use Rattle.std.specs.Prelude.{if◌then◌else◌}
use Rattle.std.specs.Option.{is_some}
use Rattle.std.specs.List.{list_all}
use Rattle.pim_down.specs.declared.machines.key.What.{What}
use Rattle.pim_down.specs.declared.machines.key.What.TheVariants.{Star, Source, Rpt}
use Rattle.pim_down.specs.declared.machines.machine.State.{State}
use Rattle.pim_down.specs.declared.machines.machine.State.TheVariants.{Join}
use Rattle.pim_down.specs.declared.machines.machine.Record.{Record}
use Rattle.pim_form.specs.NormalForm.{GroupForm, same_address, is_listed}
use Rattle.pim_form.specs.Rows.{exceptions_of}
use Rattle.pim_form.specs.Wants.{is_pruned, state_on}

-- ---- one group of a form

-- A group with neither a star nor a source.
abbrev pub unwanted : List ℕ → GroupForm
unwanted group = record { group = group; star = None; sources = [] }

-- What the form has of a group.
unfoldable pub group_in : List ℕ → List GroupForm → GroupForm
group_in group [] = unwanted group
group_in group (this ∷ form) = if same_address group this.group then this else group_in group form

-- ---- machines, by their state; `None` is NoInfo

-- The machine is in Join.
abbrev pub is_in_join : Option State → Bool
is_in_join (Some Join) = true
is_in_join _ = false

-- The machine is in NoInfo.
abbrev pub is_in_no_info : Option State → Bool
is_in_no_info state = not (is_some state)

-- A (*,G) or (S,G) machine is in Join if the form requests it, else in NoInfo.
abbrev pub joins_if : Bool → Option State → Bool
joins_if demanded state = if demanded then is_in_join state else is_in_no_info state

-- An (S,G,rpt) machine under a star is in Prune if its source is an exception, else in NoInfo.
abbrev pub prunes_if : Bool → Option State → Bool
prunes_if excepted state = if excepted then is_pruned state else is_in_no_info state

-- An (S,G,rpt) machine is as its group's star requests. Without a star it is in Prune or in NoInfo.
abbrev pub rpt_settles : Option (List (List ℕ)) → List ℕ → Option State → Bool
rpt_settles None source state = is_pruned state || is_in_no_info state
rpt_settles (Some exceptions) source state = prunes_if (is_listed source exceptions) state

-- The state of the machine is one that the form of its group allows.
abbrev pub machine_settles : GroupForm → What (List ℕ) → Option State → Bool
machine_settles this Star state = joins_if (is_some this.star) state
machine_settles this (Source source) state = joins_if (is_listed source this.sources) state
machine_settles this (Rpt source) state = rpt_settles this.star source state

-- The port is settled at the form. Its (*,G) and (S,G) machines are in Join exactly for the stars
-- and sources of the form, else in NoInfo. Its (S,G,rpt) machines under a star are in Prune exactly
-- for the exceptions, else in NoInfo. Without a star they are in Prune or in NoInfo.
abbrev pub IsSettledAt : ℕ → List GroupForm → List (Record (List ℕ)) → Type 0
IsSettledAt port form records = (group : List ℕ) (what : What (List ℕ)) →
    machine_settles (group_in group form) what (state_on records port group what) ≡ true

-- ---- how `settled` checks it

-- The state of this record's machine is one that the form allows.
abbrev pub record_settles : List GroupForm → Record (List ℕ) → Bool
record_settles form held = machine_settles (group_in held.key.group form) held.key.what (Some held.machine.state)

module _ (records : List (Record (List ℕ))) (port : ℕ) where
  -- The (S,G) machine of the port is in Join.
  abbrev pub is_joined_at : List ℕ → List ℕ → Bool
  is_joined_at group source = is_in_join (state_on records port group (Source source))

  -- The (S,G,rpt) machine of the port is in Prune.
  abbrev pub is_pruned_at : List ℕ → List ℕ → Bool
  is_pruned_at group source = is_pruned (state_on records port group (Rpt source))

  -- The port's (*,G) machine is as the group requests, its sources are in Join and its exceptions
  -- in Prune.
  abbrev pub group_settles : GroupForm → Bool
  group_settles this = joins_if (is_some this.star) (state_on records port this.group Star)
      && (list_all (is_joined_at this.group) this.sources && list_all (is_pruned_at this.group) (exceptions_of this.star))
