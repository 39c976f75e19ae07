-- A session has one dialog, but that memory may be refused: the statements of the laws in
-- `src/laws.rt`.
use Rattle.std.specs.Prelude.{◌≡◌, ◌≢◌, ℕ, List, [], ◌∷◌, ◌++◌}
use Rattle.pim_request.specs.Items.{Item}
use Rattle.pim_answers.specs.Lines.{memory_line}
use Rattle.pim_answers.specs.OneAnswer.{OneAnswer}
use Rattle.pim_session.specs.Dialog.{IsAnswer, IsDialog}
use Rattle.pim_session.specs.State.{Session}

-- The items are answered by this text, none of them by `memory`, and this is the session after
-- them.
unfoldable pub IsDialogWithRoom : Session → List Item → List ℕ → Session → Type 0
IsDialogWithRoom session [] text after = (text ≡ []) × (after ≡ session)
IsDialogWithRoom session (item ∷ items) text after =
    (first : List ℕ) × (between : Session) × (others : List ℕ) × IsAnswer session item first between
    × (first ≢ memory_line) × (text ≡ first ++ others) × IsDialogWithRoom between items others after

-- ---- laws

-- An item has at most one answer other than `memory`.
abbrev pub OneAnswerToItem : Type 0
OneAnswerToItem = (session : Session) (item : Item) → OneAnswer (IsAnswer session item)

-- Two dialogs of the same items, which nowhere answer `memory`, are the same, and lead to the same
-- session.
abbrev pub OneDialog : Type 0
OneDialog = (session : Session) (items : List Item) (text other : List ℕ) (after end : Session) →
    IsDialogWithRoom session items text after → IsDialogWithRoom session items other end →
    (text ≡ other) × (after ≡ end)

-- A dialog that nowhere answers `memory` is a dialog.
abbrev pub DialogWithRoom : Type 0
DialogWithRoom = (session : Session) (items : List Item) (text : List ℕ) (after : Session) →
    IsDialogWithRoom session items text after → IsDialog session items text after
