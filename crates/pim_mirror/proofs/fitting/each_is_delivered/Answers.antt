use Rattle.pim_mirror.proofs.Words.{refl, arith, false≢true}
use Rattle.pim_mirror.proofs.Conditions.{clash}
use Rattle.pim_mirror.proofs.fitting.each_is_delivered.Goals as goal

pub returns-then-not-is_delivered : goal.returns-then-not-is_delivered
returns-then-not-is_delivered c = (
  λ e. absurd (false≢true e),
  λ each. clash c.is_delivered.result _ c.is_delivered.ensures c.if-not-is_delivered.true
      (each c.loop-message.message c.loop-message-test.true),
)

pub returns : goal.returns
returns c = (
  λ e message below. c.loop-message.invariant message (omega (arith, below, c.loop-message-test.false)),
  λ each. refl,
)
