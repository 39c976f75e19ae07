-- The lines of a router's neighbours (RFC 7761, 4.3.1).
use Rattle.std.specs.Prelude.{ℕ, suc, ◌-◌, List, [], ◌∷◌, ◌++◌, length, take, Option, codes, decimal}
use Rattle.std.specs.List.{flat_map}
use Rattle.pim_addr.specs.declared.family.AddressFamily.{AddressFamily}
use Rattle.pim_addr.specs.Text.{address_text}
use Rattle.pim_hello.specs.Hello.{Parameters}
use Rattle.pim_hello.specs.Neighbours.{Neighbour, Table}
use Rattle.pim_text.specs.Text.{line}
use Rattle.pim_text.specs.HelloText.{number_text, delays_text}
use Rattle.pim_router.specs.State.{RouterState}
use Rattle.pim_lines.specs.Pieces.{number_or}

-- The words of an option in the line of a neighbour: a space, then the option's line in the text of
-- a Hello, without the line feed. They are nothing if the option is absent.
abbrev pub option_words : List ℕ → List ℕ
option_words [] = []
option_words (first ∷ more) = codes " " ++ take (length more) (first ∷ more)

-- The words of all options that are kept of a Hello, in the order of its text.
abbrev pub parameters_words : Parameters → List ℕ
parameters_words parameters =
    option_words (number_text (codes "holdtime ") parameters.holdtime)
    ++ option_words (delays_text parameters.lan)
    ++ option_words (number_text (codes "dr-priority ") parameters.priority)
    ++ option_words (number_text (codes "generation ") parameters.generation)

-- `port P neighbour A left T`. T is the time in milliseconds until the neighbour is removed, or
-- `never`.
abbrev pub place_words : AddressFamily → ℕ → List ℕ → Option ℕ → List ℕ
place_words family port address left =
    codes "port " ++ decimal port ++ codes " neighbour " ++ address_text family address
    ++ codes " left " ++ number_or (codes "never") left

-- The line of a neighbour of this port.
abbrev pub neighbour_line : AddressFamily → ℕ → List ℕ × Neighbour → List ℕ
neighbour_line family port entry =
    line (place_words family port entry.0 entry.1.left ++ parameters_words entry.1.parameters)

-- The lines of the neighbours of each port, in the order of their addresses, where the first table
-- is that of the port with this number.
abbrev pub tables_text : AddressFamily → ℕ → List Table → List ℕ
tables_text family port [] = []
tables_text family port (table ∷ more) =
    flat_map (neighbour_line family port) table.entries ++ tables_text family (suc port) more

-- The lines of all neighbours of a router, by port and address.
abbrev pub neighbours_text : AddressFamily → RouterState → List ℕ
neighbours_text family state = tables_text family 0 state.tables
