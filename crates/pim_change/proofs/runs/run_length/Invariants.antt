use Rattle.pim_change.proofs.Words.{◌≡◌, true, take, run_groups, run_entries, fits, units_seen, weights}
use Rattle.pim_change.proofs.runs.run_length.Given as goal

-- the units before this one fit, and their groups and entries are counted
abbrev pub invariant-loop-index : goal.invariant-loop-index
invariant-loop-index g l =
    let run = weights (units_seen g.F.Family.bytes_of (take l.index l.units)) in record {
      fitting : fits g.F.Family.family l.budget run ≡ true;
      groups : run_groups run ≡ l.groups;
      entries : run_entries run ≡ l.entries;
    }
