use Rattle.pim_mirror.proofs.Words.{◌≡◌, ◌<◌, ◌==◌, ℕ, true, list_any}
use Rattle.pim_mirror.specs.declared.config.Delivery.{Delivery}
use Rattle.pim_mirror.proofs.fitting.each_is_delivered.Given as goal

-- each message before this one is delivered
abbrev pub invariant-loop-message : goal.invariant-loop-message
invariant-loop-message l = (message : ℕ) → message < l.message →
    list_any (λ (delivery : Delivery). delivery.message == message) l.deliveries ≡ true
