use Rattle.pim_change.proofs.Words.{◌++◌, [], change, units_seen}
use Rattle.pim_change.proofs.Units.{IsChanging}
use Rattle.pim_change.proofs.changes.push_came.Given as goal

abbrev pub invariant-loop-new : goal.invariant-loop-new
invariant-loop-new g l =
    IsChanging g.F.Family.bytes_of l.units.items [] l.new-iterator
    (units_seen g.F.Family.bytes_of l.fn.units.items ++ change [] l.fn.groups)
