use Rattle.std.proofs.Common.{take}
use Rattle.pim_change.proofs.Grouping.{AreOfGroup}
use Rattle.pim_change.proofs.message.front_length.Given as goal

-- those before are of the group
abbrev pub invariant-loop-index : goal.invariant-loop-index
invariant-loop-index g l = AreOfGroup g.F.Family.bytes_of (g.F.Family.bytes_of l.group) (take l.index l.units)
