use Rattle.pim_hello.proofs.Words.{◌≡◌, length, addresses_seen}
use Rattle.pim_hello.proofs.addresses.AddressesIterator.next.Given as goal

abbrev pub invariant-loop-size : goal.invariant-loop-size
invariant-loop-size g l = addresses_seen g.F.Family.family l.self ≡ addresses_seen g.F.Family.family l.initial.self

abbrev pub decreases-loop-size : goal.decreases-loop-size
decreases-loop-size g l = length l.self.row.now
