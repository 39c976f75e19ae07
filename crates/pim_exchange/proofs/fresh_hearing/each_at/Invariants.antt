use Rattle.pim_exchange.proofs.Words.{◌≡◌, map, delivery_seen, each_at}
use Rattle.pim_exchange.proofs.fresh_hearing.each_at.Given as goal

-- those of the messages before this one
abbrev pub invariant-loop-message : goal.invariant-loop-message
invariant-loop-message l = map delivery_seen l.deliveries.items ≡ each_at l.moment l.message
