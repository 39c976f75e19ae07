use Rattle.pim_request.proofs.Cited.{bytes_left, ReadsText}
use Rattle.pim_request.proofs.items.read_text.Given as goal

abbrev pub invariant-loop-found : goal.invariant-loop-found
invariant-loop-found g l = ReadsText g.W.Drain.contents g.W.Answers.passed_on g.W.Drain.failures l.fn.answers l.answers l.fn.input l.input l.fn.held l.held

abbrev pub decreases-loop-found : goal.decreases-loop-found
decreases-loop-found g l = bytes_left l.input
