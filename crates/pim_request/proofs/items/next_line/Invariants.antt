use Rattle.pim_request.proofs.Cited.{bytes_left, PassesBlank}
use Rattle.pim_request.proofs.items.next_line.Given as goal

abbrev pub invariant-loop-found : goal.invariant-loop-found
invariant-loop-found g l = PassesBlank g.W.Drain.contents g.W.Answers.passed_on g.W.Drain.failures l.fn.answers l.answers l.fn.input l.input

abbrev pub decreases-loop-found : goal.decreases-loop-found
decreases-loop-found g l = bytes_left l.input
