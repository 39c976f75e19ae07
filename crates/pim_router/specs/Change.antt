-- The Join/Prune messages that announce a change of demand to an upstream neighbour (RFC 7761, 4.5
-- and 4.9.5).
use Rattle.std.specs.Prelude.{◌≡◌, ℕ, List, Option}
use Rattle.pim_addr.specs.declared.family.AddressFamily.{AddressFamily}
use Rattle.pim_addr.specs.Routes.{rp_of}
use Rattle.pim_form.specs.Messages.{Writing}
use Rattle.pim_form.specs.NormalForm.{GroupForm, IsFormOf}
use Rattle.pim_change.specs.Change.{change}
use Rattle.pim_change.specs.TooBig.{too_big}
use Rattle.pim_change.specs.Written.{CarryChange}
use Rattle.pim_router.specs.State.{RouterState}
use Rattle.pim_router.specs.Canonical.{demanded}

-- The messages are those of the change from the form `last` to the normal form of what is asked of
-- the writer's upstream neighbour. `last` is the form that was last announced to it.
pub record IsChangeOf (family : AddressFamily) (writing : Writing) (last : List GroupForm) (state : RouterState)
    (messages : List (List ℕ)) : Type 0 where
  pub form : List GroupForm
  pub is : IsFormOf family (demanded family writing.upstream state) form
  pub reported : CarryChange family writing (rp_of family state.routes) last form messages

-- `group` is the least group of that change whose star is announced anew and, with all its
-- exceptions, is too big for a message alone; `None` where there is no such group.
pub record IsChangeTooBig (family : AddressFamily) (writing : Writing) (last : List GroupForm) (state : RouterState)
    (group : Option (List ℕ)) : Type 0 where
  pub form : List GroupForm
  pub is : IsFormOf family (demanded family writing.upstream state) form
  pub least : too_big family writing.budget (change last form) ≡ group
