-- The line of an echo that the router is to send: PruneEcho(*,G) of RFC 7761, 4.5.1, or
-- PruneEcho(S,G) of 4.5.2.
use Rattle.std.specs.Prelude.{ℕ, List, [], ◌++◌, codes, decimal}
use Rattle.pim_addr.specs.declared.family.AddressFamily.{AddressFamily}
use Rattle.pim_addr.specs.Text.{address_text}
use Rattle.pim_down.specs.declared.machines.key.What.{What}
use Rattle.pim_down.specs.declared.machines.key.What.TheVariants.{Star, Source, Rpt}
use Rattle.pim_lines.specs.Pieces.{line}

-- The kind of a machine: (*,G), (S,G) or (S,G,rpt).
abbrev pub kind_of : What (List ℕ) → List ℕ
kind_of Star = codes "star "
kind_of (Source source) = codes "source "
kind_of (Rpt source) = codes "rpt "

-- The source of a machine and a space, or nothing for (*,G).
abbrev pub source_words : AddressFamily → What (List ℕ) → List ℕ
source_words family Star = []
source_words family (Source source) = address_text family source ++ codes " "
source_words family (Rpt source) = address_text family source ++ codes " "

-- The machine of a group: `star G`, `source S G` or `rpt S G`.
abbrev pub what_words : AddressFamily → List ℕ → What (List ℕ) → List ℕ
what_words family group what = kind_of what ++ source_words family what ++ address_text family group

-- `MOMENT port PORT echo MACHINE`, with the moment in milliseconds.
abbrev pub echo_line : AddressFamily → ℕ → ℕ → List ℕ → What (List ℕ) → List ℕ
echo_line family moment port group what =
    line (decimal moment ++ codes " port " ++ decimal port ++ codes " echo " ++ what_words family group what)
