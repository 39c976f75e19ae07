use Rattle.pim_addr.proofs.Words.{◌*◌, ◌≤◌, take, map, decimal, join_with_byte, Wrote}
use Rattle.pim_addr.proofs.text.write_dotted.Given as goal

abbrev pub invariant-loop-index : goal.invariant-loop-index
invariant-loop-index l = record {
  written : Wrote (join_with_byte 46 (map decimal (take l.index l.bytes))) 0 l.initial.text l.end l.text;
  short : l.end ≤ 4 * l.index;
}
