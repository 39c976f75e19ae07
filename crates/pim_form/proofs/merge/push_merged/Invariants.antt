use Rattle.pim_form.proofs.Words.{◌+◌, length, form_seen, merged}
use Rattle.pim_form.proofs.Merging.{IsMerging}
use Rattle.pim_form.proofs.merge.push_merged.Given as goal

-- the groups that are there, and what is left of the two forms, are the merged form
abbrev pub invariant-loop-a : goal.invariant-loop-a
invariant-loop-a g l =
    IsMerging g.F.Family.bytes_of g.F.Family.family l.one-inside.row.items l.other-inside.row.items l.left l.right l.row.items l.places.items
    (merged (form_seen g.F.Family.bytes_of l.one-inside.row.items l.one-inside.places.items) (form_seen g.F.Family.bytes_of l.other-inside.row.items l.other-inside.places.items))

abbrev pub decreases-loop-a : goal.decreases-loop-a
decreases-loop-a g l = length l.left + length l.right
