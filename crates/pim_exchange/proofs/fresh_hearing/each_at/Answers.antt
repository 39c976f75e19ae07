use Rattle.pim_exchange.proofs.Words.{map, ap, ◌∙◌, delivery_seen}
use Rattle.pim_exchange.proofs.FreshHearings.{none_yet, one_more}
use Rattle.pim_exchange.proofs.fresh_hearing.each_at.Goals as goal

pub loop-message-init : goal.loop-message-init
loop-message-init c = ap (map delivery_seen) c.new-deliveries.ensures.items ∙ none_yet c.args.moment

pub loop-message-preserved : goal.loop-message-preserved
loop-message-preserved c = one_more c.args.moment c.loop-message.deliveries.items c.push.new.self.items c.loop-message.message c.in_ok-push.ensures.items c.loop-message.invariant
