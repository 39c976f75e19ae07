use Rattle.pim_emit.proofs.Words.{◌≡◌, ◌+◌, ◌*◌, ◌++◌, length, take, Some, source_length, above, exceptions_in, AreRpts}
use Rattle.pim_emit.proofs.Words.{exception_entries}
use Rattle.pim_emit.proofs.set.write_exceptions.Given as goal

-- what is written and the exceptions that are left are all
abbrev pub invariant-loop-exception : goal.invariant-loop-exception
invariant-loop-exception g l =
    let all = exceptions_in (g.F.Family.bytes_of l.group) l.demand.form in
    let left = above (Some l.rpts.bound) all in record {
      rpts : AreRpts l.demand.machines (g.F.Family.bytes_of l.group) l.stars.first l.rpts;
      long : length l.bytes ≡ length l.initial.bytes;
      place : l.place + length left * source_length g.F.Family.family ≡ l.at + length all * source_length g.F.Family.family;
      written : take l.place l.bytes ++ exception_entries g.F.Family.family left
          ≡ take l.at l.initial.bytes ++ exception_entries g.F.Family.family all;
    }

abbrev pub decreases-loop-exception : goal.decreases-loop-exception
decreases-loop-exception g l = length (above (Some l.rpts.bound) (exceptions_in (g.F.Family.bytes_of l.group) l.demand.form))
