-- A session: the answers to the items of its input, in order.
use Rattle.std.specs.Prelude.{◌≡◌, ℕ, List, [], ◌∷◌, ◌++◌, Option, Result, Ok, Err}
use Rattle.std.specs.Io.KnownBytes.{Appends}
use Rattle.pim_device.specs.Device.{AppendsFront}
use Rattle.pim_request.specs.declared.input.Stopped.{Stopped}
use Rattle.pim_request.specs.declared.input.Stopped.TheVariants.{Input, Output}
use Rattle.pim_request.specs.Items.{Item, items_of}
use Rattle.pim_session.specs.declared.request.Request.{Request}
use Rattle.pim_session.specs.Answers.{Answers}
use Rattle.pim_session.specs.Request.{Requests}
use Rattle.pim_session.specs.State.{Session}

-- An item is answered by this text, and this is the session after it.
pub record IsAnswer (session : Session) (item : Item) (text : List ℕ) (after : Session) : Type 0 where
  pub requested : Result Request (List ℕ)
  pub requests : Requests item requested
  pub answers : Answers session requested text after

-- The items are answered by this text, and this is the session after them.
unfoldable pub IsDialog : Session → List Item → List ℕ → Session → Type 0
IsDialog session [] text after = (text ≡ []) × (after ≡ session)
IsDialog session (item ∷ items) text after =
    (first : List ℕ) × (between : Session) × (others : List ℕ) × IsAnswer session item first between
    × (text ≡ first ++ others) × IsDialog between items others after

-- Some first items are answered by this text.
pub record AnswersFirst (session : Session) (items : List Item) (text : List ℕ) : Type 0 where
  pub done : List Item
  pub left : List Item
  pub are : items ≡ done ++ left
  pub after : Session
  pub dialog : IsDialog session done text after

-- All items are answered by this text.
pub record AnswersAll (session : Session) (items : List Item) (text : List ℕ) : Type 0 where
  pub after : Session
  pub dialog : IsDialog session items text after

-- A text for which `Is` holds was written, as `Wrote` says.
pub record Wrote (Is : List ℕ → Type 0) (HasWritten : List ℕ → Type 0) : Type 0 where
  pub text : List ℕ
  pub is : Is text
  pub written : HasWritten text

-- What the answers to the items of an input return and write. `start` is the session before them.
-- At Ok all items were answered. Where the reader failed, some first items were. Where the writer
-- failed, a front of such answers was written.
abbrev pub Converses : Session → List ℕ → Option (List ℕ) → Option (List ℕ) →
    Result (Unit {0}) Stopped → Type 0
Converses start input old new (Ok done) = Wrote (AnswersAll start (items_of input))
    (Appends old new)
Converses start input old new (Err Input) = Wrote (AnswersFirst start (items_of input))
    (Appends old new)
Converses start input old new (Err Output) = Wrote (AnswersFirst start (items_of input))
    (AppendsFront old new)
