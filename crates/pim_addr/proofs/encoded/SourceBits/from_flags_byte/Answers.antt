use Rattle.pim_addr.proofs.Words.{ap, nat_eq, and_assoc}
use Rattle.pim_addr.proofs.encoded.SourceBits.from_flags_byte.Goals as goal

pub returns-clause-wildcard : goal.returns-clause-wildcard
returns-clause-wildcard c = ap (λ n. nat_eq n 2) (and_assoc 2 c.args.flags 3)
