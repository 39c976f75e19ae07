use Rattle.pim_request.specs.Input.{PassesOver}
use Rattle.pim_request.proofs.input.Input.pass_line.Given as goal

abbrev pub invariant-loop-self : goal.invariant-loop-self
invariant-loop-self g l = PassesOver g.W.Drain.contents g.W.Answers.passed_on g.W.Drain.failures l.fn.answers l.answers l.fn.self l.self

abbrev pub decreases-loop-self : goal.decreases-loop-self
decreases-loop-self g l = l.self.unread
