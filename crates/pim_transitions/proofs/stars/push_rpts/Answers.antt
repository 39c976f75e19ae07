use Rattle.std.proofs.Common.{sym}
use Rattle.pim_transitions.proofs.Walks.{rpts_more, walk_smaller, still_up, rpts_over}
use Rattle.pim_transitions.proofs.stars.push_rpts.Goals as goal

pub loop-held-preserved : goal.loop-held-preserved
loop-held-preserved g c = record {
  ascending = still_up _ _ _ c.loop-held.invariant.ascending (sym c.in-Some.ensures.reported) c.in-Some.ensures.left;
  reported = rpts_more _ _ _ _ _ _ c.loop-held.invariant.ascending (sym c.in-Some.ensures.reported) c.in-Some.ensures.left c.in_ok-push_rpt.ensures c.loop-held.invariant.reported;
}

pub loop-held-smaller : goal.loop-held-smaller
loop-held-smaller g c = walk_smaller _ _ _ c.loop-held.invariant.ascending (sym c.in-Some.ensures.reported) c.in-Some.ensures.left

pub returns : goal.returns
returns g c = rpts_over c.loop-held.left _ _ (sym c.in_default.ensures.reported) c.loop-held.invariant.reported
