-- The parts of the words that name ports, and the words that name further files of them.
use Rattle.std.specs.Prelude.{◌≡◌, ◌≢◌, ◌<◌, ◌≤◌, ◌==◌, ◌&&◌, ◌+◌, not, cond, filter, ℕ, Bool, true, false}
use Rattle.std.specs.Prelude.{List, [], ◌∷◌, ◌++◌, length, get_or, codes}
use Rattle.std.specs.List.{AllZip}
use Rattle.clap.specs.Words.{Text}
use Rattle.pim_words.specs.declared.fault.CommandFault.{CommandFault}
use Rattle.pim_words.specs.declared.fault.CommandFault.TheVariants as cause
use Rattle.pim_words.specs.declared.fault.RouterSide.{RouterSide}
use Rattle.pim_words.specs.declared.fault.RouterSide.TheVariants.{A, B}
use Rattle.pim_words.specs.declared.task.More.{More}

-- ---- the parts of a word

-- The text has no `@`.
abbrev pub LacksAtSign : Text → Type 0
LacksAtSign text = (place : ℕ) → place < length text → get_or text place 0 ≢ 64

-- The text is `ADDRESS@FILE`, cut at its first `@`.
abbrev pub IsCut : Text → Text → Text → Type 0
IsCut text address file = (text ≡ address ++ (64 ∷ file)) × LacksAtSign address

-- The mark of this router's words: `a=` or `b=`.
abbrev pub mark : RouterSide → Text
mark A = codes "a="
mark B = codes "b="

-- The word names a router, the text of an address, and a file. If the command has two routers, the
-- word begins with the mark of its router; otherwise the router is a.
abbrev pub IsCutWord : Bool → Text → RouterSide → Text → Text → Type 0
IsCutWord false word side address file = (side ≡ A) × IsCut word address file
IsCutWord true word side address file = (text : Text) × (word ≡ mark side ++ text) × IsCut text address file

-- The word doesn't have that form.
abbrev pub IsUncutWord : Bool → Text → Type 0
IsUncutWord false word = LacksAtSign word
IsUncutWord true word = (side : RouterSide) (text : Text) → word ≡ mark side ++ text → LacksAtSign text

-- ---- the words for further files

-- Whether the word is one for a further file: any container is read, and the word begins with `+`.
abbrev pub is_more : Bool → Text → Bool
is_more is_any word = is_any && (get_or word 0 0 == 43)

-- The other words. Each names a port.
abbrev pub port_words : Bool → List Text → List Text
port_words is_any words = filter (λ word. not (is_more is_any word)) words

-- The words for further files, each with the number of the ports that are named before it, which
-- counts from this one.
abbrev pub more_words : Bool → ℕ → List Text → List (ℕ × Text)
more_words is_any ports [] = []
more_words is_any ports (word ∷ words) =
    cond (is_more is_any word) ((ports, word) ∷ more_words is_any ports words) (more_words is_any (ports + 1) words)

-- The word is `+FILE`, with the name of this file. It goes on with the last of the ports before it,
-- so there must be one.
pub record IsMore (ports : ℕ) (word : Text) (more : More) : Type 0 where
  pub cut : word ≡ codes "+" ++ more.file.now
  pub named : more.file.now ≢ []
  pub last : more.port + 1 ≡ ports
  pub whole : more.word.now ≡ word

-- The words name these further files, at most 4,096.
pub record AreMore (is_any : Bool) (words : List Text) (more : List More) : Type 0 where
  pub named : AllZip (λ (at : ℕ × Text) one. IsMore at.0 at.1 one) (more_words is_any 0 words) more
  pub few : length more ≤ 4096

-- After these numbers of ports and further files, the word names one more.
abbrev pub IsRightMore : ℕ → ℕ → Text → Type 0
IsRightMore ports count word = ((more : More) × IsMore ports word more) × (count < 4096)

-- The fault of a word that names none, or one too many.
abbrev pub IsWrongMore : ℕ → ℕ → Text → CommandFault → Type 0
IsWrongMore ports count word (cause.Word text) = (text.now ≡ word) × (IsRightMore ports count word → ⊥)
IsWrongMore ports count word other = ⊥

-- ---- all words

-- The first of two facts for a word that names a further file, the second for one that names a
-- port.
abbrev pub ByKind : Bool → Type 0 → Type 0 → Type 0
ByKind true first second = first
ByKind false first second = second
