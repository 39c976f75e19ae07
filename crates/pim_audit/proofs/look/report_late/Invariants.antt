use Rattle.std.proofs.Common.{◌≡◌, ◌++◌, filter, length, map}
use Rattle.std.specs.List.Sorted.{IsPermutation}
use Rattle.pim_audit.specs.Look.{becomes_late, marked}
use Rattle.pim_audit.specs.Seen.{dues_seen}
use Rattle.pim_audit.proofs.look.report_late.Given as goal

-- those that were taken and those that are left to take are all
abbrev pub invariant-loop-held : goal.invariant-loop-held
invariant-loop-held g l =
    let bytes_of = g.F.Family.bytes_of in
    record {
      dues : map (marked l.moment l.grace) l.dues ≡ map (marked l.moment l.grace) l.fn.dues;
      late : IsPermutation (filter (becomes_late l.moment l.grace) l.fn.dues)
          (dues_seen bytes_of l.late.items ++ filter (becomes_late l.moment l.grace) l.dues);
    }

abbrev pub decreases-loop-held : goal.decreases-loop-held
decreases-loop-held g l = length (filter (becomes_late l.moment l.grace) l.dues)
