-- What contracts of private functions see of a router of either family.
use Rattle.std.specs.Prelude.{◌≡◌, ◌⊎◌, ℕ, true, false, List, [], ◌∷◌, codes, Result, Ok, Err}
use Rattle.pim_addr.specs.declared.family.AddressFamily.{AddressFamily}
use Rattle.pim_addr.specs.declared.family.AddressFamily.TheVariants as family
use Rattle.pim_form.specs.NormalForm.{GroupForm, IsFormOf}
use Rattle.pim_lines.specs.AnyAddress.{address_bytes}
use Rattle.pim_request.specs.declared.command.Command.{Command}
use Rattle.pim_request.specs.declared.command.Command.TheVariants.{Change, Same}
use Rattle.pim_request.specs.declared.command.KeptWhat.{KeptWhat as Keeping}
use Rattle.pim_router.specs.Canonical.{demanded}
use Rattle.pim_router.specs.State.{RouterState}
use Rattle.pim_answers.specs.declared.fault.AnswerFault.{AnswerFault}
use Rattle.pim_answers.specs.declared.kept.AnyForm.{AnyForm}
use Rattle.pim_answers.specs.Demanding.{kept_now, name_words}
use Rattle.pim_answers.specs.Families.{differ_from, family_words}
use Rattle.pim_answers.specs.Fault.{fault_words}
use Rattle.pim_answers.specs.Kept.{Kept, lacks_place}
use Rattle.pim_answers.specs.Lines.{ok_line, fault_line}
use Rattle.pim_answers.specs.StoreSeen.{any_seen}
use Rattle.pim_session.specs.declared.routers.AnyRouter.{AnyRouter}
use Rattle.pim_session.specs.declared.routers.AnyRouter.TheVariants.{Ipv4, Ipv6}
use Rattle.pim_session.specs.Gathering.{Starts}
use Rattle.pim_session.specs.State.{Gathered, gathering, serving}

-- The family of a router.
abbrev pub family_in : AnyRouter → AddressFamily
family_in (Ipv4 router) = family.Ipv4
family_in (Ipv6 router) = family.Ipv6

-- The state of a router.
abbrev pub state_in : AnyRouter → RouterState
state_in (Ipv4 router) = router
state_in (Ipv6 router) = router

-- The name of a command with what is kept; no name where there is none.
abbrev pub name_in : Command → List ℕ
name_in (Change comparison) = comparison.name.now
name_in (Same comparison) = comparison.name.now
name_in other = []

-- The router that `start` makes, or why there is none.
abbrev pub StartsSo : Gathered → Result AnyRouter AnswerFault → Type 0
StartsSo gathered (Ok router) = Starts gathered.family gathered ok_line (serving (family_in router)
    (state_in router))
StartsSo gathered (Err fault) = Starts gathered.family gathered (fault_line (fault_words fault))
    (gathering gathered)

-- What `keep` makes: the form of what is asked of the neighbour now, where the command has no
-- fault; else its first fault, or memory is refused.
abbrev pub IsKeptFor : AddressFamily → Keeping → RouterState → List Kept → Result AnyForm AnswerFault →
    Type 0
IsKeptFor family keeping router kept (Ok form) =
    (differ_from family (keeping.upstream ∷ []) ≡ false)
    × (lacks_place keeping.name.now kept ≡ false)
    × ((demanded_form : List GroupForm) × IsFormOf family (demanded family (address_bytes
    keeping.upstream) router) demanded_form
    × ((name : List ℕ) → any_seen name form ≡ kept_now family name demanded_form router))
IsKeptFor family keeping router kept (Err fault) =
    (differ_from family (keeping.upstream ∷ []) ≡ true) × (fault_words fault ≡ family_words)
    ⊎ (differ_from family (keeping.upstream ∷ []) ≡ false)
    × (lacks_place keeping.name.now kept ≡ true)
    × (fault_words fault ≡ name_words keeping.name.now)
    ⊎ (differ_from family (keeping.upstream ∷ []) ≡ false)
    × (lacks_place keeping.name.now kept ≡ false)
    × (fault_words fault ≡ codes "memory")
