use Rattle.pim_mirror.proofs.Words.{◌≡◌, ◌<◌, ℕ, true, map, None, delivery_seen, is_kept}
use Rattle.pim_mirror.proofs.fitting.each_is_kept.Given as goal

-- no message before this one is missed
abbrev pub invariant-loop-message : goal.invariant-loop-message
invariant-loop-message l = (message : ℕ) → message < l.message →
    is_kept l.expiry l.end message None (map delivery_seen l.deliveries) ≡ true
