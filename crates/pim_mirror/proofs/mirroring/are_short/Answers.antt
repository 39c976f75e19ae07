use Rattle.std.proofs.Common.{refl, arith}
use Rattle.pim_mirror.proofs.Heard.{each_short}
use Rattle.pim_mirror.proofs.mirroring.are_short.Goals as goal

pub returns : goal.returns
returns c = (
  λ e. each_short c.args.messages.now (λ i within. c.loop-message.invariant i (omega (arith, within, c.loop-message-test.false, c.count-message-end.ensures))),
  λ all. refl,
)
