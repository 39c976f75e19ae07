use Rattle.pim_form.proofs.Words.{◌≡◌, list_all, filter, is_on, record_settles}
use Rattle.pim_form.proofs.settling.all_held_settle.Given as goal

-- all are exactly if all that are left are
abbrev pub invariant-loop-held : goal.invariant-loop-held
invariant-loop-held g l =
    list_all (record_settles l.normal) l.held-iterator ≡ list_all (record_settles l.normal) (filter (is_on l.port) l.ports.records)
