use Rattle.pim_hello.proofs.Words.{◌≡◌, ◌+◌, ◌++◌, length, take, addresses_seen, row_spelled}
use Rattle.pim_hello.proofs.writing.put_row.Given as goal

-- what is written, and then what is left, is the whole row
abbrev pub invariant-loop-address : goal.invariant-loop-address
invariant-loop-address g l = record {
  inside : l.at + length (row_spelled g.F.Family.family (addresses_seen g.F.Family.family l.address-iterator)) ≡ length l.row;
  written : take l.at l.row ++ row_spelled g.F.Family.family (addresses_seen g.F.Family.family l.address-iterator) ≡ row_spelled g.F.Family.family (addresses_seen g.F.Family.family l.fn.addresses);
}
