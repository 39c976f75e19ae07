use Rattle.pim_transitions.proofs.Candidates.{one_more, no_more}
use Rattle.pim_transitions.proofs.marks.look_up.Goals as goal

pub loop-mark-preserved : goal.loop-mark-preserved
loop-mark-preserved g c =
    one_more c.args.port c.args.ports.now.records g.F.Family.bytes_of _ _ c.in-Some.mark.now _ _ _
    c.in-Some.ensures.cases.0 c.in_ok-near.ensures c.loop-mark.invariant

pub returns : goal.returns
returns g c =
    no_more c.args.port c.args.ports.now.records g.F.Family.bytes_of _ _ _ c.in_default.ensures.cases c.loop-mark.invariant
