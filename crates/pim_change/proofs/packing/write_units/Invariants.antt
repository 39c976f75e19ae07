use Rattle.pim_change.proofs.Words.{◌≤◌, ◌-◌, ◌++◌, ℕ, List, length, drop, rp_of, units_seen, CarryUnits}
use Rattle.pim_change.proofs.packing.write_units.Given as goal

-- whatever messages tell what is left, with those before them tell all
abbrev pub invariant-loop-start : goal.invariant-loop-start
invariant-loop-start g l =
    let bytes_of = g.F.Family.bytes_of in
    let tell = CarryUnits g.F.Family.family l.writer (rp_of g.F.Family.family l.routes) in record {
      within : l.start ≤ length l.units;
      goes : (left : List (List ℕ)) → tell (units_seen bytes_of (drop l.start l.units)) left →
          tell (units_seen bytes_of l.units) (l.messages ++ left);
    }

abbrev pub decreases-loop-start : goal.decreases-loop-start
decreases-loop-start g l = length l.units - l.start
