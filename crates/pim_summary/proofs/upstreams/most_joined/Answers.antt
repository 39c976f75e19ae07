use Rattle.pim_summary.proofs.Counted.{rp_passed, rps_passed}
use Rattle.pim_summary.proofs.upstreams.most_joined.Goals as goal

pub loop-rp-preserved : goal.loop-rp-preserved
loop-rp-preserved c = rp_passed c.args.rps.now c.loop-rp.rp-index _ _ _ _ c.loop-rp-test.true
    c.more_joined-best.ensures c.loop-rp.invariant

pub returns : goal.returns
returns c = rps_passed c.args.rps.now c.loop-rp.rp-index _ _ c.loop-rp-test.false
    c.loop-rp.invariant
