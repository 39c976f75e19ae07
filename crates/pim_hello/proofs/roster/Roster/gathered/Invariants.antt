use Rattle.pim_hello.proofs.Words.{◌≡◌, map, values, hello_of_kept}
use Rattle.pim_hello.proofs.GreatestDelays.{with_numbers, greatest_sent}
use Rattle.pim_hello.proofs.roster.Roster.gathered.Given as goal

-- the greatest so far and those that are left come to what all come to
abbrev pub invariant-loop-kept : goal.invariant-loop-kept
invariant-loop-kept g l = with_numbers l.greatest.propagation l.greatest.override_ms (greatest_sent (map hello_of_kept l.kept-iterator))
    ≡ greatest_sent (map hello_of_kept (values l.self.neighbours))
