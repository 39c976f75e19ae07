use Rattle.pim_hello.proofs.WholeTable.{expiring_twice_is_expiring_once}
use Rattle.pim_hello.proofs.laws.expiring_twice_is_expiring_once.Goals as goal

pub returns : goal.returns
returns c = expiring_twice_is_expiring_once
