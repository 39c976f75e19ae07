-- The words of a line, what a command asks for at each place, and the first wrong word.
use Rattle.std.specs.Prelude.{◌≡◌, ◌⊎◌, ⊤, ℕ, ◌+◌, ◌*◌, ◌<◌, ◌≤◌, ◌==◌, ◌++◌, List, [], ◌∷◌, decimal}
use Rattle.std.specs.List.{slice_split}
use Rattle.std.specs.Char.{digit_value}
use Rattle.pim_lines.specs.AnyAddress.{Names}
use Rattle.pim_lines.specs.declared.either.AnyAddress.{AnyAddress}
use Rattle.pim_request.specs.declared.command.WordsFault.{WordsFault}
use Rattle.pim_request.specs.declared.command.WordsFault.TheVariants.{Word, Address, Hex}

-- ---- words

-- The pieces of a text between these separators. Between two of them there is an empty piece.
abbrev pub pieces_of : ℕ → List ℕ → List (List ℕ)
pieces_of separator text = slice_split (λ byte. byte == separator) text

-- The words of a line: the pieces between its spaces.
abbrev pub words_of : List ℕ → List (List ℕ)
words_of line = pieces_of 32 line

-- The greatest moment, number of a port and length of a prefix.
abbrev pub most : ℕ
most = 1000000000000000

-- The word is pairs of hexadecimal digits, in either case.
abbrev pub IsHex : List ℕ → Type 0
IsHex [] = ⊤
IsHex (digit ∷ []) = ⊥
IsHex (high ∷ low ∷ others) = (digit_value high < 16) × (digit_value low < 16) × IsHex others

-- The bytes that pairs of hexadecimal digits state.
abbrev pub hex_bytes : List ℕ → List ℕ
hex_bytes [] = []
hex_bytes (digit ∷ []) = []
hex_bytes (high ∷ low ∷ others) = (digit_value high * 16 + digit_value low) ∷ hex_bytes others

-- The word is this text, a slash and this length: its pieces between slashes.
abbrev pub IsPrefix : List ℕ → ℕ → List ℕ → Type 0
IsPrefix text bits word = (bits ≤ most) × (pieces_of 47 word ≡ text ∷ decimal bits ∷ [])

-- ---- forms

-- What a command asks for at a place: this word, an address, a number of this range, an address
-- with a length, a name, or the digits of a message.
pub data Slot : Type 0 where
  key : List ℕ → Slot
  address : Slot
  number : ℕ → ℕ → Slot
  prefix : Slot
  name : Slot
  digits : Slot

-- The word is what the slot asks for.
abbrev pub Fits : Slot → List ℕ → Type 0
Fits (key text) word = word ≡ text
Fits address word = (a : AnyAddress) × Names word a
Fits (number low high) word = (n : ℕ) × (low ≤ n) × (n ≤ high) × (word ≡ decimal n)
Fits prefix word =
    (a : AnyAddress) × (text : List ℕ) × (bits : ℕ) × Names text a × IsPrefix text bits word
Fits name word = word ≡ [] → ⊥
Fits digits word = IsHex word

-- The word has the form that the slot asks for, whether its address can be read or not.
abbrev pub HasAddress : Slot → List ℕ → Type 0
HasAddress address word = word ≡ [] → ⊥
HasAddress prefix word = (text : List ℕ) × (bits : ℕ) × IsPrefix text bits word
HasAddress slot word = ⊥

-- A form begins with a slot that the word fits, and the rest of it is so.
abbrev pub Takes : (List Slot → Type 0) → List ℕ → List Slot → Type 0
Takes is_so word [] = ⊥
Takes is_so word (slot ∷ form) = Fits slot word × is_so form

-- The words begin this form.
abbrev pub Begins : List (List ℕ) → List Slot → Type 0
Begins [] form = ⊤
Begins (word ∷ words) form = Takes (Begins words) word form

-- The words are of this form.
abbrev pub AreOf : List (List ℕ) → List Slot → Type 0
AreOf [] form = form ≡ []
AreOf (word ∷ words) form = Takes (AreOf words) word form

-- The form begins with this slot.
abbrev pub IsFirst : Slot → List Slot → Type 0
IsFirst slot [] = ⊥
IsFirst slot (first ∷ form) = first ≡ slot

-- The words begin this form, and it asks for this slot after them.
abbrev pub Expects : Slot → List (List ℕ) → List Slot → Type 0
Expects slot [] form = IsFirst slot form
Expects slot (word ∷ words) form = Takes (Expects slot words) word form

-- One of the forms is so.
abbrev pub OneOf : (List Slot → Type 0) → List (List Slot) → Type 0
OneOf is_so [] = ⊥
OneOf is_so (form ∷ forms) = is_so form ⊎ OneOf is_so forms

-- ---- faults

-- The fault is this word.
abbrev pub IsWord : List ℕ → WordsFault → Type 0
IsWord text (Word word) = word.now ≡ text
IsWord text fault = ⊥

-- What is wrong with a word where these slots are asked for and it fits none of them: its address,
-- if its form is right; the digits, if they are asked for; the word itself in all other cases.
abbrev pub IsWrongBy : (Slot → Type 0) → List ℕ → WordsFault → Type 0
IsWrongBy expected text (Word word) =
    (word.now ≡ text) × ((slot : Slot) → expected slot → HasAddress slot text → ⊥) × (expected digits → ⊥)
IsWrongBy expected text (Address word) =
    (word.now ≡ text) × (slot : Slot) × expected slot × HasAddress slot text
IsWrongBy expected text Hex = expected digits

-- The first wrong word: those before it begin a form, and with it they begin none.
pub record IsFirstWrong (forms : List (List Slot)) (before : List (List ℕ)) (word : List ℕ)
    (fault : WordsFault) : Type 0 where
  pub begins : OneOf (Begins before) forms
  pub wrong : (slot : Slot) → OneOf (Expects slot before) forms → Fits slot word → ⊥
  pub is : IsWrongBy (λ slot. OneOf (Expects slot before) forms) word fault

-- The words are too few: they begin a form and are of none. The fault is the command itself.
pub record IsMissing (forms : List (List Slot)) (command : List ℕ) (words : List (List ℕ))
    (fault : WordsFault) : Type 0 where
  pub begins : OneOf (Begins words) forms
  pub short : OneOf (AreOf words) forms → ⊥
  pub is : IsWord command fault

-- What is wrong with the words after a command that has these forms.
abbrev pub IsFault : List (List Slot) → List ℕ → List (List ℕ) → WordsFault → Type 0
IsFault forms command words fault =
    IsMissing forms command words fault
    ⊎ ((before : List (List ℕ)) × (word : List ℕ) × (after : List (List ℕ))
    × (words ≡ before ++ (word ∷ after)) × IsFirstWrong forms before word fault)
