-- What the code's parts mean.
use Rattle.std.specs.Prelude.{List, ℕ}
use Rattle.pim_capture.specs.Seen.{ip_seen}
use Rattle.pim_fragments.specs.Parts.{Part}
use Rattle.pim_fragments.specs.declared.parts.Part as code

-- The part of an IP packet among these bytes.
abbrev pub part_seen : List ℕ → code.Part → Part
part_seen bytes part = record { datagram = ip_seen bytes part.ip; fragment = part.fragment }
