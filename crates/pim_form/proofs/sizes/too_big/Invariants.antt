use Rattle.pim_form.proofs.Words.{◌≡◌, too_big}
use Rattle.pim_form.proofs.sizes.too_big.Given as goal

-- what is too big of the groups that are left is what is too big of all
abbrev pub invariant-loop-group : goal.invariant-loop-group
invariant-loop-group g l = too_big g.F.Family.family l.budget l.group-iterator ≡ too_big g.F.Family.family l.budget l.normal
