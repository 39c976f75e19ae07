use Rattle.pim_text.proofs.Words.{AllByRecursion, IsAddress, addresses_seen}
use Rattle.pim_text.proofs.hello_law.addresses_are_of_the_family.Given as goal

-- if those that are left are addresses, all are
abbrev pub invariant-loop-address : goal.invariant-loop-address
invariant-loop-address g l =
    AllByRecursion (IsAddress g.F.Family.family) (addresses_seen g.F.Family.family l.address-iterator)
    → AllByRecursion (IsAddress g.F.Family.family) (addresses_seen g.F.Family.family l.fn.addresses)
