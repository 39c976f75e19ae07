use Rattle.pim_words.proofs.Words.{drop, is_in, address_in}
use Rattle.pim_words.proofs.OneFamily.{IsSoFar}
use Rattle.pim_words.proofs.typed.all_in_family.Given as goal

abbrev pub invariant-loop-address : goal.invariant-loop-address
invariant-loop-address g l =
    IsSoFar (is_in g.F.Family.family) (λ a. address_in g.F.Family.family (g.F.Family.bytes_of a)) l.addresses (drop l.address-index l.addresses) l.typed.items
