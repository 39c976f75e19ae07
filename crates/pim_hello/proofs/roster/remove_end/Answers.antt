use Rattle.pim_hello.proofs.Index.{removes_end}
use Rattle.pim_hello.proofs.roster.remove_end.Goals as goal

pub returns-in-Some : goal.returns-in-Some
returns-in-Some g c = rw c.in-Some.is (removes_end g.A.Ord.cmp c.in-Some.end c.args.address _ _ c.remove.ensures.updates.0)
