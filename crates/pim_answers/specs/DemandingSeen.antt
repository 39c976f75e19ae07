-- What contracts of private functions say of messages.
use Rattle.std.specs.Prelude.{◌≡◌, ◌⊎◌, ℕ, Bool, true, false, ◌&&◌, List, [], ◌∷◌, ◌++◌, map, codes, Result, Ok, Err}
use Rattle.pim_addr.specs.declared.family.AddressFamily.{AddressFamily}
use Rattle.pim_addr.specs.Routes.{RouteTable, rp_of}
use Rattle.pim_form.specs.Messages.{Writing as Writer}
use Rattle.pim_form.specs.NormalForm.{GroupForm, IsFormOf}
use Rattle.pim_form.specs.Toward.{via_of, is_toward}
use Rattle.pim_form.specs.declared.fault.FormFault.{FormFault}
use Rattle.pim_form.specs.declared.fault.FormFault.TheVariants.{TooBig, Memory, Tables}
use Rattle.pim_lines.specs.AnyAddress.{address_bytes}
use Rattle.pim_request.specs.declared.command.KeptWhat.{KeptWhat as Keeping}
use Rattle.pim_request.specs.declared.command.AnyWriting.{AnyWriting}
use Rattle.pim_router.specs.Canonical.{demanded}
use Rattle.pim_router.specs.State.{RouterState}
use Rattle.pim_report.specs.MessageText.{messages_text}
use Rattle.pim_answers.specs.declared.demanding.WriterEnds.{WriterEnds}
use Rattle.pim_answers.specs.declared.fault.AnswerFault.{AnswerFault}
use Rattle.pim_answers.specs.declared.kept.KeptForm.{KeptForm}
use Rattle.pim_answers.specs.Demanding.{writer_of, writer_words, too_big_words, name_words, kept_now, IsFirstBig, IsNoneBig}
use Rattle.pim_report.specs.SameLine.{same_line}
use Rattle.pim_answers.specs.Fault.{fault_words}
use Rattle.pim_answers.specs.Families.{differ_from, family_words}
use Rattle.pim_answers.specs.Kept.{Kept, lacks_place, have_their_rps}
use Rattle.pim_answers.specs.Lines.{ok_line, fault_line, memory_line}
use Rattle.pim_answers.specs.StoreSeen.{star_seen, form_seen}

-- The addresses of a writer are these.
abbrev pub AreEnds : {A : Type 0} → (A → List ℕ) → AnyWriting → WriterEnds A → Type 0
AreEnds bytes_of writing ends =
    (bytes_of ends.upstream ≡ (writer_of writing).upstream) × (bytes_of ends.own ≡ (writer_of writing).own)

-- The words of the first of these faults.
abbrev pub IsFirst : List (List ℕ) → AnswerFault → Type 0
IsFirst [] fault = ⊥
IsFirst (first ∷ others) fault = fault_words fault ≡ first

-- What `writer_of` returns: the writer that a command states, where it has no fault; else the first
-- fault.
abbrev pub MakesWriter : AddressFamily → AnyWriting → Result Writer AnswerFault → Type 0
MakesWriter family writing (Ok writer) = (writer_words family writing ≡ []) × (writer ≡ writer_of writing)
MakesWriter family writing (Err fault) = IsFirst (writer_words family writing) fault

-- The line of a fault of making messages.
abbrev pub form_fault_line : {F A N : Type 0} → AddressFamily → (A → List ℕ) → FormFault F A N → List ℕ
form_fault_line family bytes_of (TooBig group) = fault_line (too_big_words family (bytes_of group))
form_fault_line family bytes_of Memory = memory_line
form_fault_line family bytes_of Tables = fault_line (codes "tables")

-- The text of a command that makes messages.
abbrev pub made_text : {F A N : Type 0} → AddressFamily → (A → List ℕ) → Result (List (List ℕ)) (FormFault F A N) → List ℕ
made_text family bytes_of (Ok messages) = messages_text messages ++ ok_line
made_text family bytes_of (Err fault) = form_fault_line family bytes_of fault

-- The text of a command that compares messages.
abbrev pub same_text : {F A N : Type 0} → AddressFamily → (A → List ℕ) → Result Bool (FormFault F A N) → List ℕ
same_text family bytes_of (Ok same) = same_line same ++ ok_line
same_text family bytes_of (Err fault) = form_fault_line family bytes_of fault

-- Which star is too big, where a comparison says so: of what was kept, else of what is asked now.
abbrev pub SaysBig : {T F A N : Type 0} → AddressFamily → (A → List ℕ) → Writer → List GroupForm → RouterState →
    Result T (FormFault F A N) → Type 0
SaysBig family bytes_of writer form router (Err (TooBig group)) = IsFirstBig family writer form router (bytes_of group)
SaysBig family bytes_of writer form router (Err Tables) = Unit {0}
SaysBig family bytes_of writer form router result = IsNoneBig family writer form router

-- What is asked of a neighbour now, with the RPs of its stars.
pub record IsDemandNow {F A N : Type 0} (family : AddressFamily) (bytes_of : A → List ℕ) (upstream : List ℕ)
    (router : RouterState) (kept : KeptForm F A N) : Type 0 where
  pub is : IsFormOf family (demanded family upstream router) kept.form
  pub seen : (name : List ℕ) → form_seen family bytes_of name kept ≡ kept_now family name kept.form router

-- What `keep` makes: the form of what is asked of the neighbour now, where the command has no
-- fault; else its first fault, or memory is refused.
abbrev pub IsKeptForm : {F A N : Type 0} → AddressFamily → (A → List ℕ) → Keeping → RouterState → List Kept →
    Result (KeptForm F A N) AnswerFault → Type 0
IsKeptForm family bytes_of keeping router kept (Ok form) =
    (differ_from family (keeping.upstream ∷ []) ≡ false) × (lacks_place keeping.name.now kept ≡ false)
    × IsDemandNow family bytes_of (address_bytes keeping.upstream) router form
IsKeptForm family bytes_of keeping router kept (Err fault) =
    (differ_from family (keeping.upstream ∷ []) ≡ true) × (fault_words fault ≡ family_words)
    ⊎ (differ_from family (keeping.upstream ∷ []) ≡ false) × (lacks_place keeping.name.now kept ≡ true)
    × (fault_words fault ≡ name_words keeping.name.now)
    ⊎ (differ_from family (keeping.upstream ∷ []) ≡ false) × (lacks_place keeping.name.now kept ≡ false)
    × (fault_words fault ≡ codes "memory")

module _ {F A N : Type 0} (family : AddressFamily) (bytes_of : A → List ℕ) (routes : RouteTable) (upstream : List ℕ) where
  -- All that the form wants is asked of the neighbour by this table, and its stars have their RPs.
  abbrev pub has_same_tables : KeptForm F A N → Bool
  has_same_tables kept = is_toward (rp_of family routes) (via_of family routes) upstream kept.form
      && have_their_rps family routes (map (star_seen bytes_of) kept.stars.items)

  -- The same, and this is the form.
  abbrev pub IsUsed : KeptForm F A N → List GroupForm → Type 0
  IsUsed kept form = (has_same_tables kept ≡ true) × (form ≡ kept.form)
      × (is_toward (rp_of family routes) (via_of family routes) upstream form ≡ true)
