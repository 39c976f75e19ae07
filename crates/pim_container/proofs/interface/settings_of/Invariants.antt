use Rattle.pim_container.proofs.Words.{length, ◌+◌, ◌-◌, ◌≡◌, ◌≤◌, settings_of, settings_from, HasName}
use Rattle.pim_container.proofs.interface.settings_of.Given as goal

abbrev pub invariant-loop-at : goal.invariant-loop-at
invariant-loop-at l =
    (settings_of l.order l.bytes ≡ settings_from (length l.bytes) l.order l.settings l.at l.bytes) × (l.at ≤ length l.bytes + 16)
    × (16 ≤ l.at) × HasName l.bytes l.settings

abbrev pub decreases-loop-at : goal.decreases-loop-at
decreases-loop-at l = length l.bytes + 1 - l.at
