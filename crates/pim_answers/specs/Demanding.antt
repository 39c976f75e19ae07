-- The commands on messages to an upstream neighbour.
use Rattle.std.specs.Prelude.{◌≡◌, ◌⊎◌, ◌↔◌, IsTrue, ℕ, Bool, true, false, not, List, [], ◌∷◌, ◌++◌, map, codes, Option, None, Some}
use Rattle.pim_addr.specs.declared.family.AddressFamily.{AddressFamily}
use Rattle.pim_addr.specs.Text.{address_text}
use Rattle.pim_addr.specs.Routes.{rp_of}
use Rattle.pim_form.specs.Messages.{Writing as Writer, AreCanonical}
use Rattle.pim_form.specs.NormalForm.{GroupForm, IsFormOf}
use Rattle.pim_form.specs.TooBig.{too_big}
use Rattle.pim_form.specs.Writer.{writer_faults}
use Rattle.pim_request.specs.declared.command.AnyWriting.{AnyWriting}
use Rattle.pim_request.specs.declared.command.KeptWhat.{KeptWhat as Keeping}
use Rattle.pim_request.specs.declared.command.Comparison.{Comparison}
use Rattle.pim_router.specs.Canonical.{demanded, IsDemandedBy, IsTooBig}
use Rattle.pim_router.specs.Change.{IsChangeOf, IsChangeTooBig}
use Rattle.pim_router.specs.State.{RouterState}
use Rattle.pim_report.specs.MessageText.{messages_text}
use Rattle.pim_report.specs.SameLine.{same_line}
use Rattle.pim_answers.specs.Answered.{RefusedIf, OrMemory}
use Rattle.pim_lines.specs.AnyAddress.{address_bytes}
use Rattle.pim_answers.specs.Families.{differ_from, family_words}
use Rattle.pim_answers.specs.Answered.{Done}
use Rattle.pim_answers.specs.Kept.{kept_as, with_kept, lacks_place, stars_of, is_usable}
use Rattle.pim_answers.specs.Lines.{ok_line, fault_line, memory_line}
use Rattle.pim_answers.specs.Kept.{Kept}

-- ---- writers

-- The writer that a command states.
abbrev pub writer_of : AnyWriting → Writer
writer_of writing = record {
  upstream = address_bytes writing.upstream;
  own = address_bytes writing.own;
  holdtime = writing.holdtime;
  budget = writing.budget;
}

-- The words of a writer that there isn't: its addresses are the cause, since its holdtime and its
-- budget are in their ranges by the words of the command.
abbrev pub writer_words : AddressFamily → AnyWriting → List (List ℕ)
writer_words family writing = map (λ fault. codes "writer address") (writer_faults family (writer_of writing))

-- An address of the writer isn't of the family.
abbrev pub has_other_family : AddressFamily → AnyWriting → Bool
has_other_family family writing = differ_from family (writing.upstream ∷ writing.own ∷ [])

-- A command is refused by these words and changes nothing, or it writes this.
abbrev pub UnlessIf : Bool → List ℕ → (List ℕ → Type 0) → List ℕ → Type 0
UnlessIf true words Says text = text ≡ fault_line words
UnlessIf false words Says text = Says text

-- A command is refused by the first of these words and changes nothing. Without any it writes this.
abbrev pub UnlessAny : List (List ℕ) → (List ℕ → Type 0) → List ℕ → Type 0
UnlessAny [] Says text = Says text
UnlessAny (first ∷ others) Says text = text ≡ fault_line first

-- ---- messages

-- The words of a star that is too big for a message.
abbrev pub too_big_words : AddressFamily → List ℕ → List ℕ
too_big_words family group = codes "too big " ++ address_text family group

-- The lines of the messages that `AreMade` holds for, or memory is refused: both only where no star
-- is too big. Or the first group whose star is.
abbrev pub SaysMade : AddressFamily → (List (List ℕ) → Type 0) → (Option (List ℕ) → Type 0) → List ℕ → Type 0
SaysMade family AreMade IsBig text =
    ((((messages : List (List ℕ)) × AreMade messages × (text ≡ messages_text messages ++ ok_line))
    ⊎ (text ≡ memory_line)) × IsBig None)
    ⊎ ((group : List ℕ) × IsBig (Some group) × (text ≡ fault_line (too_big_words family group)))

-- `messages`: the canonical messages to the upstream neighbour.
abbrev pub AnswersMessages : AddressFamily → AnyWriting → RouterState → List ℕ → Type 0
AnswersMessages family writing router =
    UnlessIf (has_other_family family writing) family_words
    (UnlessAny (writer_words family writing)
    (SaysMade family (IsDemandedBy family (writer_of writing) router) (IsTooBig family (writer_of writing) router)))

-- ---- what is kept

-- The words of a name that can't be used.
abbrev pub name_words : List ℕ → List ℕ
name_words name = codes "name " ++ name

-- What is asked of a neighbour now, under this name.
abbrev pub kept_now : AddressFamily → List ℕ → List GroupForm → RouterState → Kept
kept_now family name form router =
    record { name = name; family = family; form = form; stars = stars_of family router.routes form }

-- The form of what is asked of the neighbour now is kept under the name, over what the name held.
abbrev pub KeepsForm : AddressFamily → Keeping → RouterState → List Kept → List ℕ → List Kept → Type 0
KeepsForm family keeping router kept text after = (form : List GroupForm)
    × IsFormOf family (demanded family (address_bytes keeping.upstream) router) form
    × Done (with_kept (kept_now family keeping.name.now form router) kept) text after

-- `keep`
abbrev pub AnswersKeep : AddressFamily → Keeping → RouterState → List Kept → List ℕ → List Kept → Type 0
AnswersKeep family keeping router kept =
    RefusedIf (differ_from family (keeping.upstream ∷ [])) family_words kept
    (RefusedIf (lacks_place keeping.name.now kept) (name_words keeping.name.now) kept
    (OrMemory kept (KeepsForm family keeping router kept)))

-- What is written of this, which is kept: the command is refused by the tables where it can't be
-- compared.
abbrev pub IfUsable : AddressFamily → RouterState → List ℕ → (Kept → List ℕ → Type 0) → Kept → List ℕ → Type 0
IfUsable family router upstream Says kept =
    UnlessIf (not (is_usable family router.routes upstream kept)) (codes "tables") (Says kept)

-- A command with what is kept under a name: it is refused where nothing is, or by the writer, or by
-- the tables. Else it writes this.
abbrev pub SaysOf : AddressFamily → Comparison → RouterState → (Kept → List ℕ → Type 0) → Option Kept → List ℕ → Type 0
SaysOf family comparison router Says None text = text ≡ fault_line (name_words comparison.name.now)
SaysOf family comparison router Says (Some kept) text = UnlessAny (writer_words family comparison.writing)
    (IfUsable family router (address_bytes comparison.writing.upstream) Says kept) text

-- `change` and `same`: what they write of this, which is kept under their name, if anything is.
abbrev pub AnswersFound : AddressFamily → Comparison → RouterState → (Kept → List ℕ → Type 0) → Option Kept → List ℕ → Type 0
AnswersFound family comparison router Says found =
    UnlessIf (has_other_family family comparison.writing) family_words (SaysOf family comparison router Says found)

-- The messages of the change from what was kept to what is asked now.
abbrev pub SaysChange : AddressFamily → Writer → RouterState → Kept → List ℕ → Type 0
SaysChange family writer router kept =
    SaysMade family (IsChangeOf family writer kept.form router) (IsChangeTooBig family writer kept.form router)

-- `change`
abbrev pub AnswersChange : AddressFamily → Comparison → RouterState → List Kept → List ℕ → Type 0
AnswersChange family comparison router kept =
    AnswersFound family comparison router (SaysChange family (writer_of comparison.writing) router) (kept_as comparison.name.now kept)

-- The first group whose star is too big: of what was kept, else of what is asked now.
abbrev pub IsFirstBig : AddressFamily → Writer → List GroupForm → RouterState → List ℕ → Type 0
IsFirstBig family writer form router group =
    (too_big family writer.budget form ≡ Some group)
    ⊎ (too_big family writer.budget form ≡ None) × IsTooBig family writer router (Some group)

-- No star is too big, neither of what was kept nor of what is asked now.
abbrev pub IsNoneBig : AddressFamily → Writer → List GroupForm → RouterState → Type 0
IsNoneBig family writer form router =
    (too_big family writer.budget form ≡ None) × IsTooBig family writer router None

-- The canonical messages of what was kept, and those of what is asked now, are the same, byte for
-- byte, where `same` is true, and only there.
pub record AreCompared (family : AddressFamily) (writer : Writer) (form : List GroupForm) (router : RouterState)
    (same : Bool) : Type 0 where
  pub before : List (List ℕ)
  pub now : List (List ℕ)
  pub of_kept : AreCanonical family writer (rp_of family router.routes) form before
  pub of_now : IsDemandedBy family writer router now
  pub compared : IsTrue same ↔ (before ≡ now)

-- Whether the canonical messages of what was kept are those of what is asked now, or memory is
-- refused: both only where no star is too big. Or the first group whose star is.
abbrev pub SaysSame : AddressFamily → Writer → RouterState → Kept → List ℕ → Type 0
SaysSame family writer router kept text =
    ((((same : Bool) × AreCompared family writer kept.form router same × (text ≡ same_line same ++ ok_line))
    ⊎ (text ≡ memory_line)) × IsNoneBig family writer kept.form router)
    ⊎ ((group : List ℕ) × IsFirstBig family writer kept.form router group
    × (text ≡ fault_line (too_big_words family group)))

-- `same`
abbrev pub AnswersSame : AddressFamily → Comparison → RouterState → List Kept → List ℕ → Type 0
AnswersSame family comparison router kept =
    AnswersFound family comparison router (SaysSame family (writer_of comparison.writing) router) (kept_as comparison.name.now kept)
