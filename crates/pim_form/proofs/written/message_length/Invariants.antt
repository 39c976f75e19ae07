use Rattle.pim_form.proofs.Words.{◌≡◌, ◌+◌, units_of, run_entries}
use Rattle.pim_form.proofs.written.message_length.Given as goal

-- the entries counted so far and those of the groups that are left are all
abbrev pub invariant-loop-group : goal.invariant-loop-group
invariant-loop-group g l = l.entries + run_entries (units_of l.group-iterator) ≡ run_entries (units_of l.fn.part)
