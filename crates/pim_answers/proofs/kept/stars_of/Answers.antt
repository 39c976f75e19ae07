use Rattle.pim_answers.proofs.Stores.{one_more}
use Rattle.pim_answers.proofs.kept.stars_of.Goals as goal

pub loop-this-preserved : goal.loop-this-preserved
loop-this-preserved g c = one_more g.F.Family.family c.args.routes.now _ _ _ _ _ _ c.in-Some.ensures.steps c.loop-this.invariant c.in_ok-push_star.ensures
