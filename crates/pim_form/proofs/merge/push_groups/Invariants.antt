use Rattle.pim_form.proofs.Words.{◌++◌, List, GroupForm, IsDraft}
use Rattle.pim_form.proofs.Merging.{IsRest}
use Rattle.pim_form.proofs.merge.push_groups.Given as goal

abbrev pub invariant-loop-group : goal.invariant-loop-group
invariant-loop-group g l =
    (form : List GroupForm) → IsDraft g.F.Family.bytes_of l.fn.row.items l.fn.places.items form → IsRest g.F.Family.bytes_of l.row.items l.places.items l.group-iterator (form ++ l.fn.groups)
