use Rattle.std.proofs.Common.{arith, inl}
use Rattle.pim_hello.proofs.Spelled.{held_count}
use Rattle.pim_hello.proofs.addresses.Addresses.len.Goals as goal

pub count-requires-clause-fits : goal.count-requires-clause-fits
count-requires-clause-fits g c = inl (omega (arith, held_count g.F.Family.family c.args.self.now.row.now, c.args.self.now.fits_an_option))
