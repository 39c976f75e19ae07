use Rattle.std.proofs.Common.{◌∙◌, sym, refl}
use Rattle.pim_words.proofs.Orders.{accepted}
use Rattle.pim_words.proofs.Picking.{all_read, none_picked, one_more}
use Rattle.pim_words.proofs.picks.read_picks.Goals as goal

pub returns-in_default : goal.returns-in_default
returns-in_default c =
    none_picked c.args.part c.args.is_any c.args.count c.args.values.now c.loop-value.value-index _ c.loop-value-test.true c.loop-value.picks.items _ _ c.deref.ensures.value refl c.loop-value.invariant c.in_default.ensures

pub loop-value-preserved : goal.loop-value-preserved
loop-value-preserved c =
    one_more c.args.part c.args.is_any c.args.count c.args.values.now c.loop-value.value-index _ c.loop-value-test.true c.loop-value.picks.items _ c.push.new.self.items c.in-Some.pick c.deref.ensures.value
    c.loop-value.invariant c.in-Some.ensures (accepted c.push.result _ _ _ c.push.ensures.items (sym c.is_err.ensures.value ∙ c.if-is_err.false))

pub returns : goal.returns
returns c = all_read c.args.part c.args.is_any c.args.count c.args.values.now c.loop-value.value-index c.loop-value.picks.items c.loop-value-test.false c.loop-value.invariant
