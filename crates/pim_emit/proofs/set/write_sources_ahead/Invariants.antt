use Rattle.pim_emit.proofs.Words.{◌≡◌, ◌+◌, ◌*◌, ◌++◌, ◌≤◌, ◌-◌, length, take, drop, option_map, source_length, above}
use Rattle.pim_emit.proofs.Words.{sources_in, piece_seen, piece_form, AreNext, source_entries}
use Rattle.pim_emit.proofs.set.write_sources_ahead.Given as goal

-- so many of the sources are written, those behind the last one are left, and what comes next on each port is above it
abbrev pub invariant-loop-count : goal.invariant-loop-count
invariant-loop-count g l =
    let family = g.F.Family.family in
    let all = (piece_form (piece_seen g.F.Family.bytes_of l.piece) l.demand.form).sources in record {
      most : l.count ≤ l.most;
      within : l.count ≤ length all;
      long : length l.bytes ≡ length l.initial.bytes;
      next : l.demand.machines.ports ≤ length l.nexts →
          AreNext l.demand.machines (g.F.Family.bytes_of l.piece.group) (option_map g.F.Family.bytes_of l.last) l.nexts;
      left : above (option_map g.F.Family.bytes_of l.last) (sources_in (g.F.Family.bytes_of l.piece.group) l.demand.form) ≡ drop l.count all;
      written : take (l.at + l.count * source_length family) l.bytes
          ≡ take l.at l.initial.bytes ++ source_entries family (take l.count all);
    }

abbrev pub decreases-loop-count : goal.decreases-loop-count
decreases-loop-count g l = l.most - l.count
