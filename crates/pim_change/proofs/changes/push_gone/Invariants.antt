use Rattle.pim_change.proofs.Words.{◌++◌, [], change, units_seen}
use Rattle.pim_change.proofs.Units.{IsChanging}
use Rattle.pim_change.proofs.changes.push_gone.Given as goal

abbrev pub invariant-loop-old : goal.invariant-loop-old
invariant-loop-old g l =
    IsChanging g.F.Family.bytes_of l.units.items l.old-iterator []
    (units_seen g.F.Family.bytes_of l.fn.units.items ++ change l.fn.groups [])
