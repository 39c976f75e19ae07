use Rattle.pim_addr.proofs.Words.{◌*◌, ◌≤◌, take, join_with_byte, hex_groups, Wrote}
use Rattle.pim_addr.proofs.text.write_groups.Given as goal

abbrev pub invariant-loop-index : goal.invariant-loop-index
invariant-loop-index l = record {
  written : Wrote (join_with_byte 58 (hex_groups (take (2 * l.index) l.bytes))) 0 l.initial.text l.end l.text;
  short : l.end ≤ 5 * l.index;
}
