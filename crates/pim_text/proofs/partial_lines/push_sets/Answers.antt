use Rattle.pim_text.proofs.Fronts.{sets_on, sets_done}
use Rattle.pim_text.proofs.partial_lines.push_sets.Goals as goal

pub loop-preserved : goal.loop-preserved
loop-preserved g c =
    sets_on g.F.Family.family c.args.count c.loop.counter c.loop.left.now c.in_ok-left.left.now c.loop.text.items c.push_set.new.text.items _
    c.loop-test.true c.loop.invariant c.in_ok-left.ensures.text c.in_ok-left.ensures.after

pub returns : goal.returns
returns g c = sets_done g.F.Family.family c.args.count c.loop.counter c.loop.left.now c.loop.text.items _ c.loop-test.false c.loop.invariant
