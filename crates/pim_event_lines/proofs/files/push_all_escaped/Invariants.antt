use Rattle.std.proofs.Common.{◌≡◌, ◌++◌, drop}
use Rattle.std.specs.List.{flat_map}
use Rattle.pim_event_lines.specs.Files.{escape}
use Rattle.pim_event_lines.proofs.files.push_all_escaped.Given as goal

-- what was appended and what is left to append are all
abbrev pub invariant-loop-byte : goal.invariant-loop-byte
invariant-loop-byte l = l.text.items ++ flat_map escape (drop l.byte-index l.bytes) ≡ l.fn.text.items ++ flat_map escape l.bytes
