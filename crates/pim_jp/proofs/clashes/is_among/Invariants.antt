use Rattle.pim_jp.proofs.Words.{◌≡◌, list_any, same_source, entry_seen}
use Rattle.pim_jp.proofs.clashes.is_among.Given as goal

abbrev pub invariant-loop-other : goal.invariant-loop-other
invariant-loop-other g l =
    (goal.iterator-loop-other g).can_next l.other-iterator ×
    (goal.iterator-loop-other g).is_finite l.other-iterator ×
    (list_any (same_source (entry_seen g.F.Family.bytes_of l.fn.entry)) l.fn.others
    ≡ list_any (same_source (entry_seen g.F.Family.bytes_of l.fn.entry)) l.other-iterator)
