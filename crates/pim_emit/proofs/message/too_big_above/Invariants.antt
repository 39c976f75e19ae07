use Rattle.pim_emit.proofs.Words.{◌≡◌, length, option_map, too_big, groups_above}
use Rattle.pim_emit.proofs.message.too_big_above.Given as goal

-- no group that was passed is too big
abbrev pub invariant-loop-group : goal.invariant-loop-group
invariant-loop-group g l =
    too_big g.F.Family.family l.budget (groups_above (option_map g.F.Family.bytes_of l.passed) l.demand.form)
    ≡ too_big g.F.Family.family l.budget (groups_above (option_map g.F.Family.bytes_of l.fn.bound) l.demand.form)

abbrev pub decreases-loop-group : goal.decreases-loop-group
decreases-loop-group g l = length (groups_above (option_map g.F.Family.bytes_of l.passed) l.demand.form)
