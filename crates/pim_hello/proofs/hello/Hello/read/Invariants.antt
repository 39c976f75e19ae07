use Rattle.pim_hello.proofs.Words.{◌≡◌, ◌≤◌, length, faults_of, faults, hello_of, hello_seen, over}
use Rattle.pim_hello.proofs.Parts.{parts_left}
use Rattle.pim_hello.proofs.hello.Hello.read.Given as goal

-- what is told of the bytes that are left, and said by them over the message so far, is so of the whole body
abbrev pub invariant-loop-rest : goal.invariant-loop-rest
invariant-loop-rest g l = record {
  inside : length l.rest ≤ length l.body;
  delays_heard : faults_of (parts_left l.body l.rest) ≡ faults l.body;
  said : over g.F.Family.family (hello_seen {F = g.row.F.Denot} g.F.Family.family l.hello) (parts_left l.body l.rest) ≡ hello_of g.F.Family.family l.body;
}

abbrev pub decreases-loop-rest : goal.decreases-loop-rest
decreases-loop-rest g l = length l.rest
