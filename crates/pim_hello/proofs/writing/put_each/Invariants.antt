use Rattle.std.proofs.Common.{◌≡◌, ◌*◌, map, take}
use Rattle.pim_hello.proofs.Words.{unicast_length, row_spelled, AreAddresses}
use Rattle.pim_hello.proofs.writing.put_each.Given as goal

-- the addresses so far are written
abbrev pub invariant-loop-address : goal.invariant-loop-address
invariant-loop-address g l = record {
  at : l.at ≡ l.address-index * unicast_length g.F.Family.family;
  written : take l.at l.row ≡ row_spelled g.F.Family.family (map g.F.Family.bytes_of (take l.address-index l.addresses));
  long : AreAddresses g.F.Family.family (map g.F.Family.bytes_of (take l.address-index l.addresses));
}
