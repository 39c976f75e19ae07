use Rattle.std.proofs.Common.{arith}
use Rattle.pim_hello.proofs.Spelled.{held_size, held_inside}
use Rattle.pim_hello.proofs.writing.size_row.Goals as goal

pub overflow_mul-result : goal.overflow_mul-result
overflow_mul-result g c =
    let inside = held_inside g.F.Family.family c.args.addresses.row.now in
    rw (c.len.ensures, c.unicast_length.ensures) (omega (arith, inside, c.args.addresses.fits_an_option))

pub returns-clause-size : goal.returns-clause-size
returns-clause-size g c =
    let size = held_size g.F.Family.family c.args.addresses.row.now in
    rw (c.len.ensures, c.unicast_length.ensures) size

pub returns-clause-small : goal.returns-clause-small
returns-clause-small g c =
    let inside = held_inside g.F.Family.family c.args.addresses.row.now in
    rw (c.len.ensures, c.unicast_length.ensures) (omega (arith, inside, c.args.addresses.fits_an_option))
