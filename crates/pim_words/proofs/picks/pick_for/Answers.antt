use Rattle.std.proofs.Common.{◌∙◌, sym}
use Rattle.pim_words.proofs.Picking.{found_here, not_here, nowhere}
use Rattle.pim_words.proofs.picks.pick_for.Goals as goal

pub returns-then-is_same_port : goal.returns-then-is_same_port
returns-then-is_same_port c = found_here c.args.port c.args.picks.now c.loop-pick.pick-index _ _ c.loop-pick.invariant c.loop-pick-test.true (sym c.is_same_port.ensures ∙ c.if-is_same_port.true)

pub loop-pick-preserved : goal.loop-pick-preserved
loop-pick-preserved c = not_here c.args.port c.args.picks.now c.loop-pick.pick-index _ _ c.loop-pick.invariant c.loop-pick-test.true (sym c.is_same_port.ensures ∙ c.if-is_same_port.false)

pub returns : goal.returns
returns c = nowhere c.args.port c.args.picks.now c.loop-pick.pick-index _ c.loop-pick.invariant c.loop-pick-test.false
