-- Lines of text, and the pieces they are made of.
use Rattle.std.specs.Prelude.{ℕ, List, [], ◌∷◌, ◌++◌, Option, None, Some, decimal}
use Rattle.pim_addr.specs.declared.family.AddressFamily.{AddressFamily}
use Rattle.pim_addr.specs.Text.{address_text}

-- The text, followed by a line feed.
abbrev pub line : List ℕ → List ℕ
line text = text ++ 10 ∷ []

-- The number in decimal, or the given words if there is none.
abbrev pub number_or : List ℕ → Option ℕ → List ℕ
number_or words None = words
number_or words (Some number) = decimal number

-- The text of the address, or nothing if there is none.
abbrev pub maybe_address : AddressFamily → Option (List ℕ) → List ℕ
maybe_address family None = []
maybe_address family (Some address) = address_text family address
