use Rattle.pim_transitions.proofs.Words.{◌≡◌, ◌++◌, map, flat_map, length, IsAscending, event_seen, what_seen, rpt_mark}
use Rattle.pim_transitions.proofs.Words.{rpt_marks}
use Rattle.pim_transitions.proofs.Walks.{walk_left}
use Rattle.pim_transitions.proofs.stars.push_rpts.Given as goal

-- the marks so far and those of the machines that are left are those before and those of all
abbrev pub invariant-loop-held : goal.invariant-loop-held
invariant-loop-held g l =
    let bytes_of = g.F.Family.bytes_of in record {
      ascending : IsAscending l.left.records;
      reported : map (event_seen bytes_of) l.marks.items ++ flat_map rpt_mark (walk_left l.left)
          ≡ map (event_seen bytes_of) l.fn.marks.items ++ rpt_marks l.port (bytes_of l.fn.group) (what_seen bytes_of l.fn.what) l.ports.records;
    }

-- the machines that are left
abbrev pub decreases-loop-held : goal.decreases-loop-held
decreases-loop-held g l = length (walk_left l.left)
