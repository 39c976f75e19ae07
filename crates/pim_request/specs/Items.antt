-- The items of the input of a session: its lines, and the texts that `from` lines begin.
use Rattle.std.specs.Prelude.{◌≡◌, ℕ, ◌==◌, nat_lt, Bool, true, false, ◌||◌, if◌then◌else◌, List}
use Rattle.std.specs.Prelude.{[], ◌∷◌, ◌++◌, length, take}
use Rattle.std.specs.Prelude.{Option, None, Some, codes}
use Rattle.std.specs.List.{onto_first, list_any}
use Rattle.std.specs.Str.{bytes_eq}

-- ---- lines

-- The most bytes of a line, without its line feed: 1 MiB.
abbrev pub line_limit : ℕ
line_limit = 1048576

-- The lines of an input, without their line feeds: the pieces between line feeds. A last piece
-- without a line feed is a line unless it is empty.
unfoldable pub lines_of : List ℕ → List (List ℕ)
lines_of [] = []
lines_of (byte ∷ bytes) =
    if byte == 10 then [] ∷ lines_of bytes else onto_first byte (lines_of bytes)

-- A line that is too long.
abbrev pub is_long : List ℕ → Bool
is_long line = nat_lt line_limit (length line)

-- A line that is passed over: it is empty or begins with `#`.
abbrev pub is_blank : List ℕ → Bool
is_blank [] = true
is_blank (first ∷ others) = first == 35

-- A line whose first word is `from`. A text follows it.
abbrev pub begins_text : List ℕ → Bool
begins_text line = bytes_eq line (codes "from") || bytes_eq (take 5 line) (codes "from ")

-- The line that ends a text.
abbrev pub is_send : List ℕ → Bool
is_send line = bytes_eq line (codes "send")

-- ---- texts

-- The most bytes of a text: 8 MiB.
abbrev pub text_limit : ℕ
text_limit = 8388608

-- A text.
pub record Text : Type 0 where
  -- the `from` line before it
  pub head : List ℕ
  -- its lines, whatever they are
  pub lines : List (List ℕ)
  -- whether `send` ended it, and not the end of the input
  pub is_sent : Bool

-- The text that has not begun its lines.
abbrev pub text_after : List ℕ → Text
text_after head = record { head = head; lines = []; is_sent = false }

-- The text with one line more.
abbrev pub with_line : List ℕ → Text → Text
with_line line text = record { head = text.head; lines = text.lines ++ line ∷ []; is_sent = false }

-- The text, ended by `send`.
abbrev pub sent : Text → Text
sent text = record { head = text.head; lines = text.lines; is_sent = true }

-- The bytes of lines, each with a line feed.
unfoldable pub bytes_of_lines : List (List ℕ) → List ℕ
bytes_of_lines [] = []
bytes_of_lines (line ∷ lines) = line ++ 10 ∷ bytes_of_lines lines

-- The `from` line or one of the lines of the text is too long.
abbrev pub has_long_line : Text → Bool
has_long_line text = list_any is_long (text.head ∷ text.lines)

-- ---- items

-- An item of the input.
pub data Item : Type 0 where
  a_line : List ℕ → Item
  a_long_line : Item
  a_text : Text → Item

-- The item of a line that begins no text.
abbrev pub line_item : List ℕ → Item
line_item line = if is_long line then a_long_line else a_line line

-- The items of these lines. `Some text`: they continue this text, and a line that is `send` ends
-- it. `None`: blank lines are passed over, a `from` line begins a text, and any other line is an
-- item.
unfoldable pub items_from : Option Text → List (List ℕ) → List Item
items_from None [] = []
items_from (Some text) [] = a_text text ∷ []
items_from None (line ∷ lines) =
    if is_blank line then items_from None lines else
    if begins_text line then items_from (Some (text_after line)) lines else
    line_item line ∷ items_from None lines
items_from (Some text) (line ∷ lines) =
    if is_send line then a_text (sent text) ∷ items_from None lines else
    items_from (Some (with_line line text)) lines

-- The items of an input.
abbrev pub items_of : List ℕ → List Item
items_of input = items_from None (lines_of input)

-- ---- items that lie whole in some bytes

-- The byte, before the first of these lines, if there is one.
abbrev pub onto_whole : ℕ → List (List ℕ) → List (List ℕ)
onto_whole byte [] = []
onto_whole byte (line ∷ lines) = (byte ∷ line) ∷ lines

-- The lines of these bytes that have their line feed, without it.
unfoldable pub whole_lines : List ℕ → List (List ℕ)
whole_lines [] = []
whole_lines (byte ∷ bytes) =
    if byte == 10 then [] ∷ whole_lines bytes else onto_whole byte (whole_lines bytes)

-- These lines have an item, whatever comes after them: a line that isn't blank and begins no text,
-- or a `from` line with a line `send` after it.
unfoldable pub lines_have_item : List (List ℕ) → Bool
lines_have_item [] = false
lines_have_item (line ∷ lines) =
    if is_blank line then lines_have_item lines else
    if begins_text line then list_any is_send lines else true

-- An item lies whole in these bytes, with its line feed.
abbrev pub has_item : List ℕ → Bool
has_item bytes = lines_have_item (whole_lines bytes)

-- The new bytes are the old ones without a front: the one up to the line feed with which it passes
-- the test, and without which it fails it.
pub record IsAfterFirst (test : List ℕ → Bool) (old new : List ℕ) : Type 0 where
  pub front : List ℕ
  pub all : old ≡ front ++ 10 ∷ new
  pub before : test front ≡ false
  pub with_feed : test (front ++ 10 ∷ []) ≡ true
