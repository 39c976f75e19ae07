use Rattle.pim_form.proofs.Words.{◌≡◌, ◌++◌, ◌+◌, map, length, united}
use Rattle.pim_form.proofs.merge.push_united.Given as goal

-- what was appended and what is still to be told are both lists
abbrev pub invariant-loop-a : goal.invariant-loop-a
invariant-loop-a g l =
    map g.F.Family.bytes_of l.row.items ++ united (map g.F.Family.bytes_of l.left) (map g.F.Family.bytes_of l.right)
    ≡ map g.F.Family.bytes_of l.fn.row.items ++ united (map g.F.Family.bytes_of l.one) (map g.F.Family.bytes_of l.other)

abbrev pub decreases-loop-a : goal.decreases-loop-a
decreases-loop-a g l = length l.left + length l.right
