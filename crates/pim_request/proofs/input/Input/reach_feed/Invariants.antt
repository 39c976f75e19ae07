use Rattle.pim_request.specs.Input.{KeepsOn}
use Rattle.pim_request.proofs.input.Input.reach_feed.Given as goal

abbrev pub invariant-reads : goal.invariant-reads
invariant-reads g l = KeepsOn g.W.Drain.contents g.W.Answers.passed_on g.W.Drain.failures l.fn.answers l.answers l.fn.self l.self

abbrev pub decreases-reads : goal.decreases-reads
decreases-reads g l = l.self.unread
