use Rattle.pim_hello.proofs.Words.{ap, ◌∙◌, addresses_of}
use Rattle.pim_hello.proofs.Again.{addresses_in_row}
use Rattle.pim_hello.proofs.addresses.Addresses.put.Goals as goal

pub returns : goal.returns
returns g c = ap (addresses_of g.F.Family.family) c.put_each.ensures.row ∙ addresses_in_row g.F.Family.family _ c.put_each.ensures.addresses
