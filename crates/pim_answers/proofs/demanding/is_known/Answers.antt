use Rattle.pim_answers.proofs.Makings.{known_none, known_some}
use Rattle.pim_answers.proofs.demanding.is_known.Goals as goal

pub returns-in-Unknown : goal.returns-in-Unknown
returns-in-Unknown g c name kept is = known_none g.F.Family.family g.F.Family.bytes_of name c.args.found.now kept c.in-Unknown.is is

pub returns-in_default : goal.returns-in_default
returns-in_default g c name kept is = known_some g.F.Family.family g.F.Family.bytes_of name c.args.found.now kept c.in_default.not-Unknown is
