use Rattle.pim_change.proofs.Words.{◌≡◌, ◌+◌, ◌++◌, ◌≤◌, ◌-◌, length, drop, AllByRecursion, flat_map, rp_of}
use Rattle.pim_change.proofs.Words.{canonical_set, canonical_sets_length, units_seen, IsShort, written_sets}
use Rattle.pim_change.proofs.message.append_sets.Given as goal

-- what is appended and the sets that are left are all
abbrev pub invariant-loop-start : goal.invariant-loop-start
invariant-loop-start g l =
    let family = g.F.Family.family in
    let bytes_of = g.F.Family.bytes_of in
    let sets = written_sets (rp_of family l.routes) in record {
      within : l.start ≤ length l.units;
      short : AllByRecursion IsShort (sets (units_seen bytes_of (drop l.start l.units)));
      counted : l.count + length (sets (units_seen bytes_of (drop l.start l.units)))
          ≡ length (sets (units_seen bytes_of l.units));
      longer : length l.bytes.items + canonical_sets_length family (sets (units_seen bytes_of (drop l.start l.units)))
          ≡ length l.fn.bytes.items + canonical_sets_length family (sets (units_seen bytes_of l.units));
      appended : l.bytes.items ++ flat_map (canonical_set family) (sets (units_seen bytes_of (drop l.start l.units)))
          ≡ l.fn.bytes.items ++ flat_map (canonical_set family) (sets (units_seen bytes_of l.units));
    }

abbrev pub decreases-loop-start : goal.decreases-loop-start
decreases-loop-start g l = length l.units - l.start
