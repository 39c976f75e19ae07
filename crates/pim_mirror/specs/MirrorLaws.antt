-- The statements of the laws in `src/mirror_laws.rt`.
use Rattle.std.specs.Prelude.{◌≡◌, ◌↔◌, ℕ, ◌≤◌, List, Option, None, length}
use Rattle.std.specs.List.{AllByRecursion}
use Rattle.pim_addr.specs.declared.family.AddressFamily.{AddressFamily}
use Rattle.pim_addr.specs.Routes.{RouteTable}
use Rattle.pim_down.specs.Sound.{IsSound}
use Rattle.pim_down.specs.Time.{Downstream}
use Rattle.pim_form.specs.Messages.{Writing, IsWriting, HaveRps, AreCanonical}
use Rattle.pim_form.specs.NormalForm.{GroupForm, IsNormal, IsFormOf}
use Rattle.pim_form.specs.TooBig.{too_big}
use Rattle.pim_form.specs.TowardLaws.{demand_toward}
use Rattle.pim_mirror.specs.Headline.{AreMessagesOf}

-- Each canonical message of a normal form has at most as many bytes as the writer's budget.
abbrev pub CanonicalMessagesAreShort : Type 0
CanonicalMessagesAreShort = (family : AddressFamily) (writing : Writing) (rps : List ℕ → Option (List ℕ)) (form : List GroupForm)
    (messages : List (List ℕ)) → IsWriting family writing → IsNormal family form → HaveRps family rps form →
    AreCanonical family writing rps form messages →
    AllByRecursion (λ (message : List ℕ). length message ≤ writing.budget) messages

-- A sound state has canonical messages exactly if the normal form of what it asks of the writer's
-- upstream neighbour has no star that is too big.
abbrev pub StateHasMessagesUnlessTooBig : Type 0
StateHasMessagesUnlessTooBig = (family : AddressFamily) (table : RouteTable) (writing : Writing) (state : Downstream) →
    IsWriting family writing → IsSound family state →
    ((messages : List (List ℕ)) × AreMessagesOf family table writing state messages)
    ↔ ((form : List GroupForm) → IsFormOf family (demand_toward family table writing.upstream state) form →
    too_big family writing.budget form ≡ None)
