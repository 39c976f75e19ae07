-- What a router asks of a neighbour has one list of messages: the statements of the laws in
-- `src/one_list.rt`.
use Rattle.std.specs.Prelude.{◌≡◌, ℕ, List, Option}
use Rattle.pim_addr.specs.declared.family.AddressFamily.{AddressFamily}
use Rattle.pim_form.specs.Messages.{Writing}
use Rattle.pim_form.specs.NormalForm.{GroupForm}
use Rattle.pim_router.specs.Canonical.{IsDemandedBy, IsTooBig}
use Rattle.pim_router.specs.Change.{IsChangeOf, IsChangeTooBig}
use Rattle.pim_router.specs.State.{RouterState}

-- What is asked of a neighbour has at most one list of canonical messages.
abbrev pub OneListIsDemanded : Type 0
OneListIsDemanded = (family : AddressFamily) (writing : Writing) (state : RouterState) (one other : List (List ℕ)) →
    IsDemandedBy family writing state one → IsDemandedBy family writing state other → one ≡ other

-- The least group whose star is too big for a message is one, or there is none.
abbrev pub OneIsTooBig : Type 0
OneIsTooBig = (family : AddressFamily) (writing : Writing) (state : RouterState) (one other : Option (List ℕ)) →
    IsTooBig family writing state one → IsTooBig family writing state other → one ≡ other

-- The change from a form to what is asked now has at most one list of messages.
abbrev pub OneListIsTheChange : Type 0
OneListIsTheChange = (family : AddressFamily) (writing : Writing) (last : List GroupForm) (state : RouterState)
    (one other : List (List ℕ)) → IsChangeOf family writing last state one →
    IsChangeOf family writing last state other → one ≡ other

-- The least group of that change whose star is too big for a message is one, or there is none.
abbrev pub OneChangeIsTooBig : Type 0
OneChangeIsTooBig = (family : AddressFamily) (writing : Writing) (last : List GroupForm) (state : RouterState)
    (one other : Option (List ℕ)) → IsChangeTooBig family writing last state one →
    IsChangeTooBig family writing last state other → one ≡ other
