-- The statements of the laws in `src/laws.rt`.
use Rattle.std.specs.Prelude.{◌≡◌, ◌↔◌, ◌≤◌, ℕ, not, List, [], ◌∷◌, None, length, Option}
use Rattle.std.specs.Option.{is_some}
use Rattle.std.specs.List.{AllByRecursion, filter, flat_map}
use Rattle.pim_addr.specs.declared.family.AddressFamily.{AddressFamily}
use Rattle.pim_form.specs.Laws.{IsReadAs}
use Rattle.pim_form.specs.Messages.{Writing, IsWriting, HaveRps}
use Rattle.pim_form.specs.NormalForm.{GroupForm, IsNormal, AreAscending, is_listed}
use Rattle.pim_form.specs.Settled.{group_in}
use Rattle.pim_form.specs.TooBig as form
use Rattle.pim_change.specs.Change.{ChangeUnit, in_order, change}
use Rattle.pim_change.specs.TooBig as changed
use Rattle.pim_change.specs.Written.{written_message, CarryChange}

-- The change from a form to itself has no units.
abbrev pub EqualFormsChangeNothing : Type 0
EqualFormsChangeNothing = (form : List GroupForm) → change form form ≡ []

-- The first star of a change that doesn't fit a message is the first one of the new form that
-- doesn't fit, of the groups of which the old form has no star.
abbrev pub NewStarsAloneAreTooBig : Type 0
NewStarsAloneAreTooBig = (family : AddressFamily) (budget : ℕ) (old new : List GroupForm) →
    IsNormal family old → IsNormal family new →
    changed.too_big family budget (change old new)
    ≡ form.too_big family budget (filter (λ this. not (is_some (group_in this.group old).star)) new)

-- Each byte string, sent by the writer, is read as the message of its run.
unfoldable pub AreReadAsRuns : AddressFamily → Writing → (List ℕ → Option (List ℕ)) → List (List ChangeUnit) → List (List ℕ) → Type 0
AreReadAsRuns family writing rps [] [] = Unit {0}
AreReadAsRuns family writing rps [] (bytes ∷ messages) = ⊥
AreReadAsRuns family writing rps (run ∷ runs) [] = ⊥
AreReadAsRuns family writing rps (run ∷ runs) (bytes ∷ messages) =
    IsReadAs family writing.own bytes (written_message writing rps run) × AreReadAsRuns family writing rps runs messages

-- The byte strings are read as the messages of runs, and together these runs are the change.
pub record IsReadAsChange (family : AddressFamily) (writing : Writing) (rps : List ℕ → Option (List ℕ)) (old new : List GroupForm)
    (messages : List (List ℕ)) : Type 0 where
  pub runs : List (List ChangeUnit)
  pub whole : flat_map (λ run. run) runs ≡ change old new
  pub read : AreReadAsRuns family writing rps runs messages

-- Between two normal forms whose stars have RPs, the messages of the change open without a fault.
-- They are read as the messages of the change's runs.
abbrev pub ChangeIsRead : Type 0
ChangeIsRead = (family : AddressFamily) (writing : Writing) (rps : List ℕ → Option (List ℕ)) (old new : List GroupForm)
    (messages : List (List ℕ)) → IsWriting family writing → IsNormal family old → IsNormal family new →
    HaveRps family rps old → HaveRps family rps new → CarryChange family writing rps old new messages →
    IsReadAsChange family writing rps old new messages

-- The messages of the change between two normal forms, whose stars have RPs, are within their
-- writer's budget.
abbrev pub ChangeMessagesAreShort : Type 0
ChangeMessagesAreShort = (family : AddressFamily) (writing : Writing) (rps : List ℕ → Option (List ℕ)) (old new : List GroupForm)
    (messages : List (List ℕ)) → IsWriting family writing →
    IsNormal family old → IsNormal family new → HaveRps family rps old → HaveRps family rps new →
    CarryChange family writing rps old new messages →
    AllByRecursion (λ (message : List ℕ). length message ≤ writing.budget) messages

-- Addresses in order are strictly ascending, and they are the addresses of the list.
abbrev pub AddressesAreInOrder : Type 0
AddressesAreInOrder = (addresses : List (List ℕ)) → AreAscending (in_order addresses)
    × ((address : List ℕ) → is_listed address (in_order addresses) ≡ is_listed address addresses)

-- The change between two forms has messages by a writer exactly if it isn't too big.
abbrev pub ChangeHasMessagesUnlessTooBig : Type 0
ChangeHasMessagesUnlessTooBig = (family : AddressFamily) (writing : Writing) (rps : List ℕ → Option (List ℕ)) (old new : List GroupForm) →
    IsWriting family writing → ((messages : List (List ℕ)) × CarryChange family writing rps old new messages)
    ↔ (changed.too_big family writing.budget (change old new) ≡ None)

-- The change between two forms has at most one list of messages by a writer.
abbrev pub OneListOfChange : Type 0
OneListOfChange = (family : AddressFamily) (writing : Writing) (rps : List ℕ → Option (List ℕ)) (old new : List GroupForm)
    (one other : List (List ℕ)) → CarryChange family writing rps old new one →
    CarryChange family writing rps old new other → one ≡ other
