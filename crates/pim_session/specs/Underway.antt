-- A session in progress. These definitions serve private functions only.
use Rattle.std.specs.Prelude.{◌≡◌, ℕ, Bool, true, false, List, ◌∷◌, ◌++◌, Option, Some, Result, Ok}
use Rattle.std.specs.Prelude.{Err}
use Rattle.std.specs.Io.KnownBytes.{Appends}
use Rattle.pim_addr.specs.declared.family.AddressFamily.{AddressFamily}
use Rattle.pim_device.specs.Device.{AppendsFront}
use Rattle.pim_request.specs.declared.command.Command.TheVariants.{Start}
use Rattle.pim_request.specs.declared.input.Stopped.{Stopped}
use Rattle.pim_request.specs.declared.input.Stopped.TheVariants as stopped
use Rattle.pim_request.specs.Items.{Item, items_of}
use Rattle.pim_router.specs.State.{RouterState}
use Rattle.pim_session.specs.declared.request.Request.{Request}
use Rattle.pim_session.specs.declared.request.Request.TheVariants.{Command}
use Rattle.pim_session.specs.declared.serving.SessionEnd.{SessionEnd}
use Rattle.pim_session.specs.declared.serving.SessionEnd.TheVariants.{Refused, Reset, Input}
use Rattle.pim_answers.specs.Answered.{Whole, Part}
use Rattle.pim_session.specs.Answers.{Answers, session_in}
use Rattle.pim_session.specs.Dialog.{IsAnswer, IsDialog, AnswersFirst, AnswersAll, Wrote}
use Rattle.pim_answers.specs.Lines.{ok_line, fault_line}
use Rattle.pim_session.specs.Request.{Requests}
use Rattle.pim_session.specs.State.{gathering, serving, Session, nothing_gathered}
use Rattle.pim_answers.specs.Kept.{Kept}

-- The session while its router is there, and after it was forgotten.
abbrev pub session_after : Bool → AddressFamily → RouterState → List Kept → Session
session_after true family router kept = session_in (serving family router) kept
session_after false family router kept = session_in (gathering nothing_gathered) kept

-- Of these items, all but `left` were answered, and this is the session now.
pub record Went (start : Session) (items : List Item) (old new : Option (List ℕ)) (left : List Item)
    (now : Session) : Type 0 where
  pub done : List Item
  pub text : List ℕ
  pub are : items ≡ done ++ left
  pub dialog : IsDialog start done text now
  pub written : Appends old new text

-- The same, where the items that are left are those of the bytes to come.
pub record GoesOn (start : Session) (items : List Item) (old new coming : Option (List ℕ))
    (now : Session) : Type 0 where
  pub rest : List ℕ
  pub known : coming ≡ Some rest
  pub went : Went start items old new (items_of rest) now

-- How a part of a session ends, where `kept` is then kept. `refused` is the session where the
-- router was refused.
abbrev pub Ended : Session → List Item → Option (List ℕ) → Option (List ℕ) → Option (List ℕ) →
    List Kept → Session →
    Result SessionEnd Stopped → Type 0
Ended start items old new coming kept refused (Ok Reset) =
    GoesOn start items old new coming (session_in (gathering nothing_gathered) kept)
Ended start items old new coming kept refused (Ok Refused) =
    GoesOn start items old new coming refused
Ended start items old new coming kept refused (Ok Input) = Wrote (AnswersAll start items)
    (Appends old new)
Ended start items old new coming kept refused (Err stopped.Input) = Wrote (AnswersFirst start items)
    (Appends old new)
Ended start items old new coming kept refused (Err stopped.Output) =
    Wrote (AnswersFirst start items) (AppendsFront old new)

-- The same of a part that begins with an item that asks for a start, before these bytes.
abbrev pub Begins : Session → List ℕ → Option (List ℕ) → Option (List ℕ) → Option (List ℕ) →
    List Kept →
    Result SessionEnd Stopped → Type 0
Begins start bytes old new coming kept result = (item : Item) → Requests item (Ok (Command Start)) →
    Ended start (item ∷ items_of bytes) old new coming kept start result

-- The same of a part that begins with an item that `ok` answers, after which this is the session.
abbrev pub BeginsServing : Session → List ℕ → Session → Option (List ℕ) → Option (List ℕ) →
    Option (List ℕ) → List Kept →
    Result SessionEnd Stopped → Type 0
BeginsServing start bytes served old new coming kept result = (item : Item) →
    IsAnswer start item ok_line served →
    Ended start (item ∷ items_of bytes) old new coming kept start result

-- The answer to a request before the start: `true` where it asks for the start, which isn't
-- answered yet.
abbrev pub Configured : {E : Type 0} → Session → Result Request (List ℕ) → Option (List ℕ) →
    Option (List ℕ) →
    Result Bool E → Session → Type 0
Configured start requested old new (Ok true) after = (requested ≡ Ok (Command Start)) × (new ≡ old)
    × (after ≡ start)
Configured start requested old new (Ok false) after = Whole (Answers start requested) old new after
Configured start requested old new (Err failed) after = Part (Answers start requested) old new

-- A start was refused by these words.
abbrev pub IsRefused : List ℕ → Option (List ℕ) → Option (List ℕ) → Result SessionEnd Stopped → Type 0
IsRefused words old new (Ok Refused) = Appends old new (fault_line words)
IsRefused words old new (Err stopped.Output) = AppendsFront old new (fault_line words)
IsRefused words old new other = ⊥
