use Rattle.pim_text.proofs.Words.{◌≡◌, subst, Some, Expected, after}
use Rattle.pim_text.proofs.steps.step.Goals as goal

pub returns-in-Body-clause-only : goal.returns-in-Body-clause-only
returns-in-Body-clause-only c line next expects is = c.body_step.ensures.only line next (subst (λ (a : Expected). after a line ≡ Some next) c.in-Body.is expects) is
