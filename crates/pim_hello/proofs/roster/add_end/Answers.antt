use Rattle.pim_hello.proofs.Index.{adds_end}
use Rattle.pim_hello.proofs.roster.add_end.Goals as goal

pub returns-in_ok-insert-clause-added : goal.returns-in_ok-insert-clause-added
returns-in_ok-insert-clause-added g c = rw c.in-Some.is (adds_end g.A.Ord.cmp c.in-Some.end c.args.address _ _ c.in_ok-insert.ensures.updates.0)
