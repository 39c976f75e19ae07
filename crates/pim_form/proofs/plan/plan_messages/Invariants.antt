use Rattle.pim_form.proofs.Words.{drop, IsFilling}
use Rattle.pim_form.proofs.plan.plan_messages.Given as goal

-- the groups from here on are left
abbrev pub invariant-loop-place : goal.invariant-loop-place
invariant-loop-place g l =
    IsFilling g.F.Family.bytes_of g.F.Family.family l.budget l.row l.places (drop l.place-index l.places) l.filling
