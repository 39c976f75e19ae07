-- The line of the warning on a choice of records that nothing in a capture meets.
use Rattle.std.specs.Prelude.{ℕ, List, [], ◌∷◌, ◌++◌, codes, decimal, Option, None, Some}
use Rattle.pim_capture.specs.declared.interface.InterfaceChoice.{InterfaceChoice}
use Rattle.pim_capture.specs.declared.interface.InterfaceChoice.TheVariants.{Number, Name}
use Rattle.pim_capture.specs.declared.link.Link.{Link}
use Rattle.pim_capture.specs.Names.{text_of}
use Rattle.pim_merge.specs.declared.unchosen.Unchosen.{Unchosen}
use Rattle.pim_lines.specs.Pieces.{line}
use Rattle.pim_faults.specs.Missing.{more_text}
use Rattle.pim_faults.specs.Words.{vlan_words}

-- An interface as `--interface` takes it.
abbrev pub interface_words : InterfaceChoice → List ℕ
interface_words (Number number) = decimal number
interface_words (Name name) = text_of name

-- A link, after the word `vlan`.
abbrev pub link_words : Link → List ℕ
link_words link = vlan_words link.vlan ++ codes " interface " ++ interface_words link.interface

-- Words and the link in a slot, if it has one.
abbrev pub slot_words : List ℕ → Option Link → List ℕ
slot_words words None = []
slot_words words (Some link) = words ++ link_words link

-- The links in these slots, each after a comma.
unfoldable pub other_links : List (Option Link) → List ℕ
other_links [] = []
other_links (slot ∷ slots) = slot_words (codes ", vlan ") slot ++ other_links slots

-- The links in these slots, with commas between them.
unfoldable pub links_text : List (Option Link) → List ℕ
links_text [] = []
links_text (slot ∷ slots) = slot_words (codes "; PIM is there on vlan ") slot ++ other_links slots

-- The line of the warning that no record of the capture in this file is chosen, with the links of its
-- PIM packets.
abbrev pub unchosen_text : List ℕ → Unchosen → List ℕ
unchosen_text file unchosen = line (codes "pimtree: warning: " ++ file
    ++ codes " has no record that --vlan and --interface choose" ++ links_text unchosen.links
    ++ more_text unchosen.has_more)
