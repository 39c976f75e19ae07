use Rattle.std.proofs.Common.{arith}
use Rattle.pim_change.proofs.RunCounts.{few_exceptions}
use Rattle.pim_change.proofs.runs.entry_count.Goals as goal

pub overflow_add-result : goal.overflow_add-result
overflow_add-result g c =
    omega (
      arith,
      few_exceptions g.F.Family.bytes_of g.F.Family.family c.args.budget
          (g.F.Family.bytes_of c.args.unit.now.group) c.args.unit.now.action _ c.requires.most c.in-JoinStar.is
          c.requires.fits,
    )

pub returns-in-JoinStar-clause-small : goal.returns-in-JoinStar-clause-small
returns-in-JoinStar-clause-small g c =
    few_exceptions g.F.Family.bytes_of g.F.Family.family c.args.budget
    (g.F.Family.bytes_of c.args.unit.now.group) c.args.unit.now.action _ c.requires.most c.in-JoinStar.is
    c.requires.fits
