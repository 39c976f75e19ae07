use Rattle.std.proofs.Common.{◌∙◌, sym}
use Rattle.pim_emit.proofs.PortsBelow.{none_at_all, none_more}
use Rattle.pim_emit.proofs.stars.first_set.Goals as goal

pub loop-place-init : goal.loop-place-init
loop-place-init c = λ test are. none_at_all test

pub loop-place-preserved : goal.loop-place-preserved
loop-place-preserved c = λ test are.
    none_more test c.loop-place.place (c.loop-place.invariant test are) (sym (are c.loop-place.place _ c.loop-place-test.true) ∙ c.if-flags-place.false)
