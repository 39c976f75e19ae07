use Rattle.pim_emit.proofs.Words.{◌≡◌, ℕ, List, Option, Some, length, AreNext, AreNextBelow, IsNextSource}
use Rattle.pim_emit.proofs.NextAhead.{AreSameFrom}
use Rattle.pim_emit.proofs.ahead.pass_all.Given as goal

-- it is passed on the ports before this one, and from this one on all is as it was
abbrev pub invariant-loop-port : goal.invariant-loop-port
invariant-loop-port g l =
    let passed = g.F.Family.bytes_of l.passed in record {
      long : length l.nexts ≡ length l.initial.nexts;
      left : AreSameFrom l.port l.nexts l.initial.nexts;
      next : (group : List ℕ) (bound : Option (List ℕ)) → AreNext l.ports group bound l.initial.nexts → IsNextSource l.ports group bound (Some passed) →
          AreNextBelow l.ports group (Some passed) l.port l.nexts;
    }
