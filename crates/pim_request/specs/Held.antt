-- What private functions say of a text while it is read.
use Rattle.std.specs.Prelude.{◌≡◌, ◌≢◌, ◌<◌, ◌≤◌, ◌++◌, ℕ, Bool, true, false, List, [], ◌∷◌}
use Rattle.std.specs.Prelude.{length, ⊤, Option, Some, None, Result, Ok, Err}
use Rattle.std.specs.List.{list_any}
use Rattle.std.specs.Option.{IfSome}
use Rattle.pim_request.specs.declared.input.Found.{Found}
use Rattle.pim_request.specs.declared.input.Stopped.{Stopped}
use Rattle.pim_request.specs.declared.sort.Sort.TheVariants.{Blank}
use Rattle.pim_request.specs.declared.items.Item.{Item}
use Rattle.pim_request.specs.Items.{Text, a_text, is_long, items_from, items_of, lines_of}
use Rattle.pim_request.specs.Items.{has_long_line, text_after, is_send, whole_lines, has_item}
use Rattle.pim_request.specs.Items.{line_limit, text_limit}
use Rattle.pim_request.specs.Reading.{Reading, Holds, IsItem}
use Rattle.pim_request.specs.Input.{Lines, coming_lines, bytes_left, IsFound, IsTaken, Passes}
use Rattle.pim_request.specs.Input.{Proceeds}

-- What is held of a text.
pub record Held : Type 0 where
  pub from_line : List ℕ
  pub bytes : List ℕ
  pub has_long_line : Bool
  pub is_too_long : Bool

-- What is held is short, and its rooms have place for the longest line and the longest text.
pub record HasRoom (from_line : List ℕ) (line_room : ℕ) (bytes : List ℕ) (text_room : ℕ) : Type 0 where
  pub line_short : length from_line ≤ line_limit
  pub line_fits : line_limit ≤ line_room
  pub text_short : length bytes ≤ text_limit
  pub text_fits : text_limit ≤ text_room

-- This text is held, as far as its lines allow.
pub record HoldsText (text : Text) (held : Held) : Type 0 where
  pub has_long_line : held.has_long_line ≡ has_long_line text
  pub holds : held.has_long_line ≡ false → Holds held.is_too_long text held.from_line held.bytes

-- A line was added to a text, with its line feed; or it wasn't, since the text is too long with it.
abbrev pub KeepsLine : List ℕ → List ℕ → List ℕ → Bool → Type 0
KeepsLine old line new false = new ≡ old ++ (line ++ 10 ∷ [])
KeepsLine old line new true = (new ≡ old) × (text_limit < length (old ++ (line ++ 10 ∷ [])))

-- The line is known as this one, unless it is too long.
pub record IsKnown (line : List ℕ) (too_long : Bool) (whole : List ℕ) : Type 0 where
  pub long : too_long ≡ is_long whole
  pub same : too_long ≡ false → line ≡ whole

-- A text was read to its end, where a text had begun before these bytes.
pub record EndsText (begun : Text) (bytes : List ℕ) (is_sent : Bool) (input : Lines) (held : Held) : Type 0 where
  pub text : Text
  pub rest : List ℕ
  pub items : items_from (Some begun) (lines_of bytes) ≡ a_text text ∷ items_of rest
  pub sent : text.is_sent ≡ is_sent
  pub holds : HoldsText text held
  pub coming : coming_lines input ≡ Some rest

-- What `read_text` gives where these bytes were to come.
abbrev pub GivesText : Text → List ℕ → Result Bool Stopped → Lines → Held → Type 0
GivesText begun bytes (Ok is_sent) input held = EndsText begun bytes is_sent input held
GivesText begun bytes (Err stopped) input held = ⊤

-- The item is a text that begins with this `from` line, where these bytes come after it.
pub record IsTextItem (head bytes : List ℕ) (item : Item) (reading : Reading) : Type 0 where
  pub text : Text
  pub rest : List ℕ
  pub items : items_from (Some (text_after head)) (lines_of bytes) ≡ a_text text ∷ items_of rest
  pub is : IsItem (a_text text) item reading
  pub coming : reading.coming ≡ Some rest

-- What `take_text` gives where these bytes were to come.
abbrev pub GivesTextItem : List ℕ → List ℕ → Result Item Stopped → Reading → Type 0
GivesTextItem head bytes (Ok item) reading = IsTextItem head bytes item reading
GivesTextItem head bytes (Err stopped) reading = ⊤

-- A line `send` lies whole in these bytes.
abbrev pub has_send : List ℕ → Bool
has_send bytes = list_any is_send (whole_lines bytes)

-- A line that isn't blank was found, and only blank ones before it.
pub record IsSome (bytes : List ℕ) (found : Found) (lines : Lines) : Type 0 where
  pub later : List ℕ
  pub passes : Passes has_item has_item bytes later
  pub items : items_of bytes ≡ items_of later
  pub is : IsFound later found lines
  pub sort : found.sort ≢ Blank

-- What `next_line` gives where these bytes were to come and blank lines are passed over.
abbrev pub GivesSome : List ℕ → Result (Option Found) Stopped → Lines → Type 0
GivesSome bytes (Ok (Some found)) lines = IsSome bytes found lines
GivesSome bytes (Ok None) lines = (items_of bytes ≡ []) × (coming_lines lines ≡ Some [])
GivesSome bytes (Err stopped) lines = ⊤

-- The first line that isn't blank of what was pending was found, with its line feed.
pub record IsSomeTaken (pending : List ℕ) (found : Found) (lines : Lines) : Type 0 where
  pub later : List ℕ
  pub passes : Passes has_item has_item pending later
  pub is : IsTaken later found lines
  pub sort : found.sort ≢ Blank

-- What `next_line` gives where an item lay whole in what was pending.
abbrev pub TakesSome : List ℕ → Result (Option Found) Stopped → Lines → Type 0
TakesSome pending (Ok (Some found)) lines = IsSomeTaken pending found lines
TakesSome pending result lines = ⊥

-- What contracts see of a reader with these parts.
abbrev pub reading_seen : Lines → Held → Bool → Reading
reading_seen input held has_stopped = record {
  coming = coming_lines input;
  pending = input.pending;
  unread = input.unread;
  left = bytes_left input;
  failures = input.failures;
  line = input.line;
  from_line = held.from_line;
  text = held.bytes;
  has_stopped = has_stopped;
}

-- The items of the bytes that were to come are those of the bytes that are to come now.
pub record SameItems (bytes : List ℕ) (lines : Lines) : Type 0 where
  pub later : List ℕ
  pub passes : Passes has_item has_item bytes later
  pub coming : coming_lines lines ≡ Some later
  pub items : items_of bytes ≡ items_of later

-- What a loop over lines keeps while no line feed is missing: nothing was read or passed on.
pub record AtOnce {W : Type 0} (test : List ℕ → Bool) (old new : W) (before after : Lines) : Type 0 where
  pub output : new ≡ old
  pub unread : after.unread ≡ before.unread
  pub passes : Passes test test before.pending after.pending

-- What the loop over blank lines keeps.
pub record PassesBlank {W : Type 0} (contents passed_on : W → Option (List ℕ)) (failures : W → ℕ) (old new : W) (before after : Lines) : Type 0 where
  pub at_once : has_item before.pending ≡ true → AtOnce has_item old new before after
  pub same : IfSome (coming_lines before) (λ bytes. SameItems bytes after)
  pub left : bytes_left after ≤ bytes_left before
  pub proceeds : Proceeds contents passed_on failures old new before after

-- A text has these lines so far, and the bytes that are to come continue it.
pub record Continues (begun : Text) (bytes : List ℕ) (lines : Lines) (held : Held) : Type 0 where
  pub text : Text
  pub later : List ℕ
  pub coming : coming_lines lines ≡ Some later
  pub items : items_from (Some begun) (lines_of bytes) ≡ items_from (Some text) (lines_of later)
  pub unsent : text.is_sent ≡ false
  pub holds : HoldsText text held

-- The bytes that were to come are lines without a `send`, and those that are to come now.
pub record PassesLines (bytes : List ℕ) (lines : Lines) : Type 0 where
  pub later : List ℕ
  pub coming : coming_lines lines ≡ Some later
  pub passes : Passes has_send has_send bytes later

-- What the loop over the lines of a text keeps.
pub record ReadsText {W : Type 0} (contents passed_on : W → Option (List ℕ)) (failures : W → ℕ) (old new : W) (before after : Lines) (first held : Held) : Type 0 where
  pub at_once : has_send before.pending ≡ true → AtOnce has_send old new before after
  pub lines : IfSome (coming_lines before) (λ bytes. PassesLines bytes after)
  pub continues : IfSome (coming_lines before) (λ bytes.
      (begun : Text) → begun.is_sent ≡ false → HoldsText begun first → Continues begun bytes after held)
  pub left : bytes_left after ≤ bytes_left before
  pub proceeds : Proceeds contents passed_on failures old new before after
