use Rattle.std.proofs.Common.{arith}
use Rattle.pim_hello.proofs.Spelled.{are_addresses, row_inside}
use Rattle.pim_hello.proofs.hello.Hello.put.Goals as goal

pub returns-clause-fits : goal.returns-clause-fits
returns-clause-fits g c = record {
  parameters = c.put_parameters.ensures.fits;
  addresses = are_addresses g.F.Family.family c.args.self.now.addresses.row.now;
  row = omega (arith, row_inside g.F.Family.family c.args.self.now.addresses.row.now, c.args.self.now.addresses.fits_an_option);
}
