use Rattle.pim_form.proofs.Words.{◌≡◌, list_all, group_settles}
use Rattle.pim_form.proofs.settling.all_groups_settle.Given as goal

-- all are exactly if all that are left are
abbrev pub invariant-loop-this : goal.invariant-loop-this
invariant-loop-this g l =
    list_all (group_settles l.ports.records l.port) l.this-iterator ≡ list_all (group_settles l.ports.records l.port) l.normal
