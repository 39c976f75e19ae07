use Rattle.std.proofs.Common.{◌∙◌, arith}
use Rattle.pim_summary.proofs.Counted.{pruned_added, pruned_done}
use Rattle.pim_summary.proofs.upstreams.add_pruned.Goals as goal

pub loop-set-preserved : goal.loop-set-preserved
loop-set-preserved g c = (
  pruned_added _ _ _ _ _ _ _ c.in-Some.ensures.steps (c.from.ensures
      ∙ c.pruned_count.ensures) c.more-prunes.ensures c.loop-set.invariant.0,
  omega (arith, c.more-prunes.ensures),
)

pub returns : goal.returns
returns g c = pruned_done _ _ _ c.in-None.ensures.steps.0 c.loop-set.invariant.1
    c.loop-set.invariant.0
