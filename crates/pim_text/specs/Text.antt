-- A line of the text of a message, and the text of a message whose body isn't read.
use Rattle.std.specs.Prelude.{ℕ, List, [], ◌∷◌, ◌++◌, codes, decimal}

-- The text, followed by a line feed.
abbrev pub line : List ℕ → List ℕ
line text = text ++ 10 ∷ []

-- The line of a message of another type.
abbrev pub type_text : ℕ → List ℕ
type_text kind = line (codes "type " ++ decimal kind)
