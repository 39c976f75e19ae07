-- The lines of the warnings on whom the messages of a capture name.
use Rattle.std.specs.Prelude.{ℕ, Bool, true, false, List, [], ◌∷◌, ◌++◌, codes, Option, None, Some}
use Rattle.pim_addr.specs.declared.family.AddressFamily.{AddressFamily}
use Rattle.pim_addr.specs.Text.{address_text}
use Rattle.pim_merge.specs.declared.census.Census.{Census}
use Rattle.pim_merge.specs.Missing.{address_in}
use Rattle.pim_lines.specs.Pieces.{line}

-- Words and the address in a slot, if it has one.
abbrev pub slot_text : AddressFamily → List ℕ → Option (List ℕ) → List ℕ
slot_text family words None = []
slot_text family words (Some field) = words ++ address_text family (address_in family field)

-- The addresses in these slots, each after a comma.
unfoldable pub others_text : AddressFamily → List (Option (List ℕ)) → List ℕ
others_text family [] = []
others_text family (slot ∷ slots) = slot_text family (codes ", ") slot ++ others_text family slots

-- The addresses in these slots, with commas between them.
unfoldable pub listed_text : AddressFamily → List (Option (List ℕ)) → List ℕ
listed_text family [] = []
listed_text family (slot ∷ slots) = slot_text family (codes ", but for ") slot ++ others_text family slots

-- That there are more than those in the slots.
abbrev pub more_text : Bool → List ℕ
more_text true = codes ", and more"
more_text false = []

-- The upstream neighbours of a census, and that there are more.
unfoldable pub neighbours_text : AddressFamily → Census → List ℕ
neighbours_text family census = listed_text family census.upstreams ++ more_text census.has_more

-- The line of the warning that no message of the capture in this file is for the own address of this
-- census, but for the upstream neighbours that it has.
abbrev pub missed_text : AddressFamily → List ℕ → Census → List ℕ
missed_text family file census = line (codes "pimtree: warning: " ++ file ++ codes " has no Join/Prune for "
    ++ address_text family (address_in family census.own) ++ neighbours_text family census)

-- The line of the warning that the capture in this file has a Join(*,G) of this group, which has no
-- RP.
abbrev pub unserved_text : AddressFamily → List ℕ → List ℕ → List ℕ
unserved_text family file group = line (codes "pimtree: warning: " ++ file ++ codes " has a Join(*,G) of "
    ++ address_text family group ++ codes ", which has no RP")
