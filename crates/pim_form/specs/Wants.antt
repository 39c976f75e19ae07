-- What the machines of the ports want, by the macros that summarize downstream state
-- (RFC 7761, 4.1). Local members and asserts aren't modeled.
use Rattle.std.specs.Prelude.{ℕ, zero, suc, Bool, true, false, ◌&&◌, ◌||◌, not, List, Option, Some}
use Rattle.pim_down.specs.declared.machines.key.What.{What}
use Rattle.pim_down.specs.declared.machines.key.What.TheVariants.{Star, Source, Rpt}
use Rattle.pim_down.specs.declared.machines.machine.State.{State}
use Rattle.pim_down.specs.declared.machines.machine.State.TheVariants.{Join, PrunePending, Prune}
use Rattle.pim_down.specs.declared.machines.machine.Record.{Record}
use Rattle.pim_down.specs.Records.{state_of}
use Rattle.pim_down.specs.Time.{Downstream}
use Rattle.pim_form.specs.declared.tree.Tree.{Tree}
use Rattle.pim_form.specs.declared.tree.Tree.TheVariants.{Shared, Source as SourceTree}

-- The state that puts a port into joins(*,G) or joins(S,G): Join or Prune-Pending.
abbrev pub is_joined : Option State → Bool
is_joined (Some Join) = true
is_joined (Some PrunePending) = true
is_joined _ = false

-- The state that puts a port into prunes(S,G,rpt): Prune. The macro has PruneTmp, too, which no
-- machine has between messages.
abbrev pub is_pruned : Option State → Bool
is_pruned (Some Prune) = true
is_pruned _ = false

-- DownstreamJPState of a machine on a port; `None` is NoInfo.
abbrev pub state_on : List (Record (List ℕ)) → ℕ → List ℕ → What (List ℕ) → Option State
state_on records port group what = state_of (record { port = port; group = group; what = what }) records

-- The port is in inherited_olist(S,G,rpt): in joins(*,G) but not in prunes(S,G,rpt).
abbrev pub inherited_olist : List (Record (List ℕ)) → List ℕ → List ℕ → ℕ → Bool
inherited_olist records source group port =
    is_joined (state_on records port group Star) && not (is_pruned (state_on records port group (Rpt source)))

-- The port is in immediate_olist(S,G): in joins(S,G).
abbrev pub immediate_olist : List (Record (List ℕ)) → List ℕ → List ℕ → ℕ → Bool
immediate_olist records source group port = is_joined (state_on records port group (Source source))

-- The port wants the traffic of a source to a group, on the shared tree or on the source's tree.
abbrev pub wants_on : List (Record (List ℕ)) → List ℕ → List ℕ → Tree → ℕ → Bool
wants_on records source group Shared port = inherited_olist records source group port
wants_on records source group SourceTree port = immediate_olist records source group port

-- Some number below `count` passes the test.
unfoldable pub some_below : ℕ → (ℕ → Bool) → Bool
some_below zero test = false
some_below (suc count) test = test count || some_below count test

-- Some port wants the traffic. On the shared tree, inherited_olist(S,G,rpt) isn't empty. On the
-- source's tree, immediate_olist(S,G) isn't empty, as in JoinDesired(S,G) (RFC 7761, 4.5.5).
abbrev pub wants : Downstream → List ℕ → List ℕ → Tree → Bool
wants state source group tree = some_below state.ports (wants_on state.records source group tree)
