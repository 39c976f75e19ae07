-- The fresh router that heard a sender's canonical messages, and then hears the change of the
-- sender's demand.
use Rattle.std.specs.Prelude.{◌≡◌, ◌⊎◌, ℕ, ◌+◌, List, [], ◌∷◌, ◌++◌, length, Option, None, Some, Result, Ok, Err}
use Rattle.std.specs.List.{flat_map}
use Rattle.pim_addr.specs.declared.family.AddressFamily.{AddressFamily}
use Rattle.pim_addr.specs.Routes.{RouteTable, rp_of}
use Rattle.pim_change.specs.Written.{CarryChange}
use Rattle.pim_form.specs.Messages.{Writing}
use Rattle.pim_mirror.specs.Mirror.{GoesThrough, delivery_inputs, first_needed}
use Rattle.pim_mirror.specs.declared.mirroring.MirrorFault.{MirrorFault}
use Rattle.pim_mirror.specs.declared.mirroring.MirrorFault.TheVariants as fault
use Rattle.pim_router.specs.Course.{Input, RouterReport, runs_to, IsCourse}
use Rattle.pim_router.specs.State.{RouterState}
use Rattle.pim_exchange.specs.FreshHearing.{AreSent, IsFull, each_at, fresh_of}

-- J/P_Override_Interval(I) of the fresh router's port, in milliseconds (RFC 7761, 4.3.3).
abbrev pub fresh_interval : ℕ
fresh_interval = 3000

-- The inputs of a change: each of its messages once, at this moment and in order, then the override
-- interval.
abbrev pub change_inputs : AddressFamily → List (List ℕ) → List ℕ → ℕ → List Input
change_inputs family messages sender moment =
    flat_map (delivery_inputs family messages sender) (each_at moment (length messages))
    ++ runs_to (moment + fresh_interval) ∷ []

module _ (family : AddressFamily) (table : RouteTable) (writing : Writing) where
  -- Under this table the canonical messages of the writer's demand are first `before` and later
  -- `wanted`. The messages `change` report the change from the one to the other.
  pub record AreCarried (before change wanted : List (List ℕ)) : Type 0 where
    pub was : AreSent family table writing before
    pub is : AreSent family table writing wanted
    pub reported : CarryChange family writing (rp_of family table) was.demanded.form is.demanded.form change

  module _ (limit : ℕ) (before change : List (List ℕ)) where
    -- The fresh router heard the messages `before`, and at its final moment those of the change.
    -- `needed` is the number of records that the first message of the change without room needed,
    -- if there is one.
    pub record HearsBoth (needed : Option ℕ) : Type 0 where
      pub mirror : RouterState
      pub heard : GoesThrough family before (fresh_of table writing limit before) None mirror
      pub reported : List RouterReport
      pub after : RouterState
      pub course : IsCourse family (change_inputs family change writing.own mirror.machines.moment) reported mirror after
      pub needed_is : first_needed reported ≡ needed

    -- Each message of both lists had room in the fresh router.
    abbrev pub HasRoom : Type 0
    HasRoom = HearsBoth None

    -- A message of the first list has no room, or else one of the change.
    abbrev pub HasNoRoom : ℕ → Type 0
    HasNoRoom needed = IsFull family table writing limit before needed ⊎ HearsBoth (Some needed)

    -- What the step returns that makes the messages of the fresh router after the change. At Ok
    -- they are `wanted`.
    abbrev pub MovedAgain : List (List ℕ) → Result (List (List ℕ)) MirrorFault → Type 0
    MovedAgain wanted (Ok again) = HasRoom × (again ≡ wanted)
    MovedAgain wanted (Err (fault.Full needed)) = HasNoRoom needed
    MovedAgain wanted (Err fault.Memory) = Unit {0}
