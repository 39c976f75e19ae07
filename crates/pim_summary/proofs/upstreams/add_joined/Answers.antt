use Rattle.std.proofs.Common.{◌∙◌, arith}
use Rattle.pim_summary.proofs.Counted.{joined_added, joined_done}
use Rattle.pim_summary.proofs.upstreams.add_joined.Goals as goal

pub loop-set-preserved : goal.loop-set-preserved
loop-set-preserved g c = (
  joined_added _ _ _ _ _ _ _ c.in-Some.ensures.steps (c.from.ensures
      ∙ c.joined_count.ensures) c.more-joins.ensures c.loop-set.invariant.0,
  omega (arith, c.more-joins.ensures),
)

pub returns : goal.returns
returns g c = joined_done _ _ _ c.in-None.ensures.steps.0 c.loop-set.invariant.1
    c.loop-set.invariant.0
