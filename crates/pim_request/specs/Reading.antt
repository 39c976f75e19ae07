-- What contracts see of a reader of items, and what each call gives.
use Rattle.std.specs.Prelude.{◌≡◌, ◌<◌, ◌≤◌, ◌⊎◌, ℕ, ◌+◌, Bool, true, false, List, [], ◌∷◌, ◌++◌}
use Rattle.std.specs.Prelude.{length, min, ⊤}
use Rattle.std.specs.Prelude.{Option, None, Some, Result, Ok, Err}
use Rattle.std.specs.Option.{IfSome}
use Rattle.pim_device.specs.Device.{top_count}
use Rattle.pim_request.specs.declared.input.Stopped.{Stopped}
use Rattle.pim_request.specs.declared.input.Stopped.TheVariants.{Input, Output}
use Rattle.pim_request.specs.declared.items.Item.{Item}
use Rattle.pim_request.specs.declared.items.Item.TheVariants.{Line, LongLine, Text as TextOf}
use Rattle.pim_request.specs.declared.items.TextItem.{TextItem}
use Rattle.pim_request.specs.Items.{Text, Item as SomeItem, a_line, a_long_line, a_text, items_of}
use Rattle.pim_request.specs.Items.{has_long_line, has_item, IsAfterFirst}
use Rattle.pim_request.specs.Items.{bytes_of_lines, text_limit}

-- A reader of items.
pub record Reading : Type 0 where
  -- the bytes of the input that belong to no item so far, where they are known; after an early end,
  -- only those that were not read
  pub coming : Option (List ℕ)
  -- the bytes that were read and belong to no item so far; none after an early end
  pub pending : List ℕ
  -- the number of bytes that may still be read
  pub unread : ℕ
  -- that number and the number of bytes that are pending
  pub left : ℕ
  -- the count of failures of the device that it reads
  pub failures : ℕ
  -- whether a call has ended early, with an error
  pub has_stopped : Bool
  -- the line of the last item, if that is a line
  pub line : List ℕ
  -- the `from` line of the last item, if that is a text without a line that is too long
  pub from_line : List ℕ
  -- the bytes of the text of the last item, if that is a text that is held
  pub text : List ℕ

-- What is held of a text: all of it; or only its `from` line, since the text is too long.
abbrev pub Holds : Bool → Text → List ℕ → List ℕ → Type 0
Holds false text from_line bytes =
    (from_line ≡ text.head) × (bytes ≡ bytes_of_lines text.lines) × (length bytes ≤ text_limit)
Holds true text from_line bytes =
    (from_line ≡ text.head) × (text_limit < length (bytes_of_lines text.lines))

-- The item is this text. If one of its lines is too long, nothing more is said of it.
pub record IsText (text : Text) (item : TextItem) (reading : Reading) : Type 0 where
  pub is_sent : item.is_sent ≡ text.is_sent
  pub has_long_line : item.has_long_line ≡ has_long_line text
  pub held : item.has_long_line ≡ false → Holds item.is_too_long text reading.from_line reading.text

-- The item that a call gives is this item of the input.
abbrev pub IsItem : SomeItem → Item → Reading → Type 0
IsItem (a_line line) Line reading = reading.line ≡ line
IsItem a_long_line LongLine reading = ⊤
IsItem (a_text text) (TextOf item) reading = IsText text item reading
IsItem some item reading = ⊥

-- The item is the first one of these bytes, and the rest of them has the others.
pub record IsFirstItem (bytes : List ℕ) (item : Item) (reading : Reading) : Type 0 where
  pub first : SomeItem
  pub rest : List ℕ
  pub items : items_of bytes ≡ first ∷ items_of rest
  pub is : IsItem first item reading
  pub coming : reading.coming ≡ Some rest

-- What `next` gives where these bytes were to come: their first item, or `None` if they have none.
-- `EndsEarly` says what an early end leaves.
abbrev pub GivesItem : List ℕ → Result (Option Item) Stopped → Reading → Type 0
GivesItem bytes (Ok (Some item)) reading = IsFirstItem bytes item reading
GivesItem bytes (Ok None) reading = (items_of bytes ≡ []) × (reading.coming ≡ Some [])
GivesItem bytes (Err stopped) reading = ⊤

-- Each item takes bytes: fewer are left after it. No call leaves more.
abbrev pub LeavesLess : {A : Type 0} → Result (Option A) Stopped → ℕ → ℕ → Type 0
LeavesLess (Ok (Some item)) old new = new < old
LeavesLess result old new = new ≤ old

-- How often the reading device has failed after the call: once more at `Input`, unless no byte may
-- be read any more; else as often as before.
abbrev pub CountsReads : {A : Type 0} → Result A Stopped → ℕ → ℕ → ℕ → Type 0
CountsReads (Err Input) unread old new =
    (new ≡ min (old + 1) top_count) ⊎ ((new ≡ old) × (unread ≡ 0))
CountsReads result unread old new = new ≡ old

-- How often the answering device has failed after the call: once more at `Output`, else as often as
-- before.
abbrev pub flush_failures_after : {A : Type 0} → ℕ → Result A Stopped → ℕ
flush_failures_after before (Err Output) = min (before + 1) top_count
flush_failures_after before result = before

-- The answers are passed on before each read: they are all passed on, or nothing was read and the
-- answering device is as before. At `Input` a read came last.
abbrev pub MayPassOn : {A : Type 0} → Result A Stopped → Type 0 → Type 0 → Type 0
MayPassOn (Ok value) Untouched Passed = Untouched ⊎ Passed
MayPassOn (Err Input) Untouched Passed = Passed
MayPassOn (Err Output) Untouched Passed = ⊤

-- The same of the call that gives items: at the end of the input a read came last, too.
abbrev pub PassesOn : {A : Type 0} → Result (Option A) Stopped → Type 0 → Type 0 → Type 0
PassesOn (Ok None) Untouched Passed = Passed
PassesOn result Untouched Passed = MayPassOn result Untouched Passed

-- An item was given.
abbrev pub GivesOne : {A : Type 0} → Result (Option A) Stopped → Type 0
GivesOne (Ok (Some item)) = ⊤
GivesOne result = ⊥

-- What `next` does where an item lies whole in what is pending: it gives an item, reads nothing,
-- and leaves pending what was read after the item.
pub record IsAtOnce (result : Result (Option Item) Stopped) (old new : Reading) : Type 0 where
  pub one : GivesOne result
  pub unread : new.unread ≡ old.unread
  pub pending : IsAfterFirst has_item old.pending new.pending

-- What an early end leaves where these bytes were to come. Those that were read are lost, and no
-- item lies whole in them. A read may fail, and so may passing on the answers. So no call does
-- either while an item lies whole in what was read.
pub record EndsEarly (bytes : List ℕ) (reading : Reading) : Type 0 where
  pub read : List ℕ
  pub rest : List ℕ
  pub all : bytes ≡ read ++ rest
  pub none : has_item read ≡ false
  pub coming : reading.coming ≡ Some rest

-- Only a reader that has not stopped gives an item, or `None`. At an error it stops for good, and
-- nothing is pending any more.
abbrev pub Stops : {A : Type 0} → Result A Stopped → Reading → Reading → Type 0
Stops (Ok value) old new = (old.has_stopped ≡ false) × (new.has_stopped ≡ false)
Stops (Err stopped) old new = (new.has_stopped ≡ true) × (new.pending ≡ [])

-- What is pending is a front of what is to come, and counts in `left`.
pub record Pends (reading : Reading) : Type 0 where
  pub front : IfSome reading.coming (λ bytes. (rest : List ℕ) × (bytes ≡ reading.pending ++ rest))
  pub left : reading.left ≡ reading.unread + length reading.pending
