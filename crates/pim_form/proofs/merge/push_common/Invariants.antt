use Rattle.pim_form.proofs.Words.{◌+◌, map, length, ◌++◌, common}
use Rattle.pim_form.proofs.MergeSteps.{IsMeeting}
use Rattle.pim_form.proofs.merge.push_common.Given as goal

abbrev pub invariant-loop-a : goal.invariant-loop-a
invariant-loop-a g l =
    IsMeeting g.F.Family.bytes_of l.row.items l.left l.right (map g.F.Family.bytes_of l.fn.row.items ++ common (map g.F.Family.bytes_of l.one) (map g.F.Family.bytes_of l.other))

abbrev pub decreases-loop-a : goal.decreases-loop-a
decreases-loop-a g l = length l.left + length l.right
