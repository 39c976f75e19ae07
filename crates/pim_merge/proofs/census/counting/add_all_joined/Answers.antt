use Rattle.pim_merge.proofs.CensusSteps.{set_added, sets_added}
use Rattle.pim_merge.proofs.census.counting.add_all_joined.Goals as goal

pub loop-set-preserved : goal.loop-set-preserved
loop-set-preserved g c = set_added _ _ _ _ _ _ c.in-Some.ensures.steps c.add_joined.ensures c.loop-set.invariant

pub returns : goal.returns
returns g c = sets_added _ _ _ c.in-None.ensures.steps.0 c.loop-set.invariant
