-- The statements of the laws in `src/laws.rt`.
use Rattle.std.specs.Prelude.{◌≡◌, ◌↔◌, ℕ, List, []}
use Rattle.pim_addr.specs.declared.family.AddressFamily.{AddressFamily}
use Rattle.pim_addr.specs.Routes.{IsRouteTable, rp_of}
use Rattle.pim_down.specs.Hearing.{Event}
use Rattle.pim_down.specs.Time.{Downstream}
use Rattle.pim_form.specs.Messages.{Writing, IsWriting, HaveRps, AreCanonical}
use Rattle.pim_form.specs.NormalForm.{GroupForm, IsNormal, IsFormOf, Agree}
use Rattle.pim_form.specs.Wants.{wants}
use Rattle.pim_router.specs.Canonical.{demanded, IsDemandedBy}
use Rattle.pim_router.specs.State.{RouterState}
use Rattle.pim_audit.specs.Between.{AreDue}
use Rattle.pim_audit.specs.Entries.{due_entries}
use Rattle.pim_audit.specs.Sides.{SidesState, wanted_demand}
use Rattle.pim_audit_laws.specs.Asked.{IsAskedBy}

-- Between two normal forms nothing is due exactly if they are one form (RFC 7761, 4.5.4, 4.5.5 and
-- 4.5.7).
abbrev pub NothingDueIsOneForm : Type 0
NothingDueIsOneForm = (family : AddressFamily) (asked wanted : List GroupForm) →
    IsNormal family asked → IsNormal family wanted → (due_entries asked wanted ≡ []) ↔ (asked ≡ wanted)

-- The demands agree: of valid sources and groups both want the same, and a normal form of one is
-- that of the other.
pub record IsOneDemand (family : AddressFamily) (sides : SidesState) : Type 0 where
  pub agree : Agree family (wants sides.asked) (wanted_demand family sides)
  pub forms : (form : List GroupForm) →
      IsFormOf family (wants sides.asked) form ↔ IsFormOf family (wanted_demand family sides) form

-- While the upstream neighbour is known, nothing is due exactly if it was asked for what the router
-- wants of it now (RFC 7761, 4.5). Its machines or its local receivers want it.
abbrev pub NothingDueIsOneDemand : Type 0
NothingDueIsOneDemand = (family : AddressFamily) (sides : SidesState) (entries : List Event) →
    AreDue family sides entries → (entries ≡ []) ↔ IsOneDemand family sides

-- ---- without local receivers: the messages of a router ask for what its machines want alone

-- Both sides of an audit of a router without local receivers.
abbrev pub without_local : List ℕ → Downstream → RouterState → SidesState
without_local upstream asked state = record {
  asked = asked;
  wanted = state.machines;
  local = [];
  routes = state.routes;
  upstream = upstream;
}

-- Without local receivers the router wants of a neighbour what it asks of it in its messages.
abbrev pub WithoutLocalIsDemanded : Type 0
WithoutLocalIsDemanded = (family : AddressFamily) (upstream : List ℕ) (asked : Downstream) (state : RouterState) →
    Agree family (wanted_demand family (without_local upstream asked state)) (demanded family upstream state)

-- By one writer the messages that ask for what its upstream neighbour was asked for are those that
-- the router asks with now, and there is at most one list of them.
pub record IsOneList (family : AddressFamily) (writing : Writing) (asked : Downstream) (state : RouterState) : Type 0 where
  pub same : (messages : List (List ℕ)) →
      IsAskedBy family writing (rp_of family state.routes) asked messages ↔ IsDemandedBy family writing state messages
  pub one : (messages said : List (List ℕ)) → IsAskedBy family writing (rp_of family state.routes) asked messages →
      IsDemandedBy family writing state said → messages ≡ said

-- If nothing is due toward a writer's upstream neighbour while it is known, the messages that ask
-- for both are one list (RFC 7761, 4.5 and 4.9.5). The router has no local receivers.
abbrev pub NothingDueIsOneList : Type 0
NothingDueIsOneList = (family : AddressFamily) (writing : Writing) (asked : Downstream) (state : RouterState) →
    AreDue family (without_local writing.upstream asked state) [] → IsOneList family writing asked state

-- If the canonical messages of what the upstream neighbour was asked for are those that the router
-- asks with now, nothing is due. Each star that the neighbour was asked for has an RP now. The
-- router has no local receivers.
abbrev pub OneListIsNothingDue : Type 0
OneListIsNothingDue = (family : AddressFamily) (writing : Writing) (asked : Downstream) (state : RouterState)
    (entries : List Event) (form : List GroupForm) (messages : List (List ℕ)) →
    IsWriting family writing → IsRouteTable family state.routes →
    AreDue family (without_local writing.upstream asked state) entries → IsFormOf family (wants asked) form →
    HaveRps family (rp_of family state.routes) form →
    AreCanonical family writing (rp_of family state.routes) form messages → IsDemandedBy family writing state messages →
    entries ≡ []
