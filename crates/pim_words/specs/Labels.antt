-- The words that name ports. In a trace or an audit, ports have names.
use Rattle.std.specs.Prelude.{◌≡◌, ◌≢◌, ◌<◌, ◌⊎◌, ◌+◌, ⊤, ℕ, Bool, true, false, not, ◌&&◌}
use Rattle.std.specs.Prelude.{List, [], ◌∷◌, ◌++◌, length, get_or, Option, None, Some}
use Rattle.std.specs.Borrow.{Bor}
use Rattle.std.specs.List.{list_any}
use Rattle.std.specs.Str.{bytes_eq}
use Rattle.clap.specs.Words.{Text}
use Rattle.pim_lines.specs.declared.either.AnyAddress.{AnyAddress}
use Rattle.pim_words.specs.declared.fault.CommandFault.{CommandFault}
use Rattle.pim_words.specs.declared.fault.CommandFault.TheVariants as cause
use Rattle.pim_words.specs.declared.fault.RouterSide.{RouterSide}
use Rattle.pim_words.specs.declared.task.CommandKind.{CommandKind}
use Rattle.pim_words.specs.declared.task.CommandKind.TheVariants.{Trace, Audit}
use Rattle.pim_words.specs.declared.task.Port.{Port}
use Rattle.pim_lines.specs.AnyAddress.{Names, IsUnread}
use Rattle.pim_lines.specs.PortNames.{is_port_name}
use Rattle.pim_words.specs.Given.{is_sided}
use Rattle.pim_words.specs.Ports.{ByKind, IsCutWord, IsRightMore, IsUncutWord, IsWrongMore, LacksAtSign, is_more}

-- ---- names

-- Whether a port has this name.
abbrev pub is_name_of : Text → Option (Bor Text) → Bool
is_name_of name None = false
is_name_of name (Some other) = bytes_eq other.now name

-- Whether one of these ports has this name.
abbrev pub has_name : List (Option (Bor Text)) → Text → Bool
has_name names name = list_any (is_name_of name) names

-- Whether the next port may have this name, after ports with these: it is a name, and none of
-- theirs.
abbrev pub is_fresh : List (Option (Bor Text)) → Option (Bor Text) → Bool
is_fresh earlier None = true
is_fresh earlier (Some name) = is_port_name name.now && not (has_name earlier name.now)

-- ---- the name of a word

-- The text has no `=`.
abbrev pub LacksEqualSign : Text → Type 0
LacksEqualSign text = (place : ℕ) → place < length text → get_or text place 0 ≢ 61

-- The word is `NAME=REST`, cut at its first `=`, which comes before the first `@`.
abbrev pub HasLabel : Text → Text → Text → Type 0
HasLabel word name rest = (word ≡ name ++ (61 ∷ rest)) × LacksEqualSign name × LacksAtSign name

-- The word has this name, if any, and this rest, where ports may have names.
abbrev pub IsNamed : Text → Option (Bor Text) → Text → Type 0
IsNamed word None rest = (rest ≡ word) × ((name more : Text) → HasLabel word name more → ⊥)
IsNamed word (Some name) rest = HasLabel word name.now rest

-- The word has this name, if any, and this rest. Only the words of a trace and of an audit have
-- names.
abbrev pub IsLabelOf : CommandKind → Text → Option (Bor Text) → Text → Type 0
IsLabelOf Trace word name rest = IsNamed word name rest
IsLabelOf Audit word name rest = IsNamed word name rest
IsLabelOf command word name rest = (name ≡ None) × (rest ≡ word)

-- ---- a word, after ports with these names

-- The word names this port, with this name if any.
pub record IsLabelled (command : CommandKind) (earlier : List (Option (Bor Text))) (word : Text) (port : Port AnyAddress)
    (name : Option (Bor Text)) : Type 0 where
  pub rest : Text
  pub cut : IsLabelOf command word name rest
  pub fresh : is_fresh earlier name ≡ true
  pub address_text : Text
  pub parts : IsCutWord (is_sided command) rest port.side address_text port.file.now
  pub address : Names address_text port.address
  pub whole : port.word.now ≡ word

-- The word's name isn't one, or is that of an earlier port; or the rest has another form.
pub record IsMislabelled (command : CommandKind) (earlier : List (Option (Bor Text))) (word : Text) : Type 0 where
  pub name : Option (Bor Text)
  pub rest : Text
  pub cut : IsLabelOf command word name rest
  pub wrong : (is_fresh earlier name ≡ false) ⊎ IsUncutWord (is_sided command) rest

-- The word has the right form and name, but its address can't be read.
pub record HasUnreadAddress (command : CommandKind) (earlier : List (Option (Bor Text))) (word : Text) : Type 0 where
  pub name : Option (Bor Text)
  pub rest : Text
  pub cut : IsLabelOf command word name rest
  pub fresh : is_fresh earlier name ≡ true
  pub side : RouterSide
  pub address_text : Text
  pub file : Text
  pub parts : IsCutWord (is_sided command) rest side address_text file
  pub unread : IsUnread address_text

-- The fault of a word.
abbrev pub IsWrongLabelled : CommandKind → List (Option (Bor Text)) → Text → CommandFault → Type 0
IsWrongLabelled command earlier word (cause.Word reported) = (reported.now ≡ word) × IsMislabelled command earlier word
IsWrongLabelled command earlier word (cause.Address reported) = (reported.now ≡ word) × HasUnreadAddress command earlier word
IsWrongLabelled command earlier word other = ⊥

-- ---- all words

-- These words, none of which is one for a further file, name these ports with these names, after
-- ports with the earlier names.
abbrev pub AreLabelledAfter : CommandKind → List (Option (Bor Text)) → List Text → List (Port AnyAddress) →
    List (Option (Bor Text)) → Type 0
AreLabelledAfter command earlier [] [] [] = ⊤
AreLabelledAfter command earlier (word ∷ words) (port ∷ ports) (name ∷ names) =
    IsLabelled command earlier word port name × AreLabelledAfter command (earlier ++ name ∷ []) words ports names
AreLabelledAfter command earlier words ports names = ⊥

-- These words name these ports with these names.
abbrev pub AreLabelled : CommandKind → List Text → List (Port AnyAddress) → List (Option (Bor Text)) → Type 0
AreLabelled command words ports names = AreLabelledAfter command [] words ports names

-- The fault is that of the first wrong word, after ports with the earlier names and this number of
-- further files. All words before it name ports or further files.
abbrev pub IsFirstWrong : CommandKind → Bool → List (Option (Bor Text)) → ℕ → List Text → CommandFault → Type 0
IsFirstWrong command is_any earlier count [] fault = ⊥
IsFirstWrong command is_any earlier count (word ∷ words) fault = ByKind (is_more is_any word)
    (IsWrongMore (length earlier) count word fault
    ⊎ (IsRightMore (length earlier) count word × IsFirstWrong command is_any earlier (count + 1) words fault))
    (IsWrongLabelled command earlier word fault
    ⊎ ((port : Port AnyAddress) × (name : Option (Bor Text)) × IsLabelled command earlier word port name
    × IsFirstWrong command is_any (earlier ++ name ∷ []) count words fault))
