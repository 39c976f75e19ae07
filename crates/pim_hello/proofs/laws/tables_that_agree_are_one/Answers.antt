use Rattle.pim_hello.proofs.WholeTable.{tables_that_agree_are_one}
use Rattle.pim_hello.proofs.laws.tables_that_agree_are_one.Goals as goal

pub returns : goal.returns
returns c = tables_that_agree_are_one
