-- The Join/Prune messages by which a router asks an upstream neighbour for the traffic that its
-- machines want (RFC 7761, 4.1 and 4.9.5).
use Rattle.std.specs.Prelude.{◌≡◌, ◌⊎◌, ℕ, true, List, Option, None, is_some}
use Rattle.pim_addr.specs.declared.family.AddressFamily.{AddressFamily}
use Rattle.pim_addr.specs.Routes.{rp_of}
use Rattle.pim_form.specs.Messages.{Writing, AreCanonical}
use Rattle.pim_form.specs.NormalForm.{GroupForm, Demand, IsFormOf}
use Rattle.pim_form.specs.TooBig.{too_big}
use Rattle.pim_form.specs.TowardLaws.{demand_toward}
use Rattle.pim_router.specs.State.{RouterState}

-- The traffic that the router's machines want (RFC 7761, 4.1), as far as its route table leads the
-- RP or the source to this neighbour.
abbrev pub demanded : AddressFamily → List ℕ → RouterState → Demand
demanded family neighbour state = demand_toward family state.routes neighbour state.machines

-- The messages are canonical messages of the normal form of what is asked of the writer's upstream
-- neighbour.
pub record IsDemandedBy (family : AddressFamily) (writing : Writing) (state : RouterState) (messages : List (List ℕ))
    : Type 0 where
  pub form : List GroupForm
  pub is : IsFormOf family (demanded family writing.upstream state) form
  pub reported : AreCanonical family writing (rp_of family state.routes) form messages

-- ---- stars that are too big for a message

-- `group` is the least group of the normal form whose star, with all its exceptions, is too big for
-- a message alone; `None` where there is no such group.
pub record IsTooBig (family : AddressFamily) (writing : Writing) (state : RouterState) (group : Option (List ℕ))
    : Type 0 where
  pub form : List GroupForm
  pub is : IsFormOf family (demanded family writing.upstream state) form
  pub least : too_big family writing.budget form ≡ group

-- The same for two routers, where a group of the first router precedes each of the second.
abbrev pub IsFirstTooBig : AddressFamily → Writing → RouterState → RouterState → Option (List ℕ) → Type 0
IsFirstTooBig family writing one other group =
    (is_some group ≡ true) × IsTooBig family writing one group
    ⊎ IsTooBig family writing one None × IsTooBig family writing other group
