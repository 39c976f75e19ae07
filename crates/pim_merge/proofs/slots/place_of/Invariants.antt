use Rattle.pim_merge.proofs.Words.{◌≡◌, ◌+◌, drop, place_of}
use Rattle.pim_merge.proofs.slots.place_of.Given as goal

-- the place is among the slots that are left
abbrev pub invariant-loop-slot : goal.invariant-loop-slot
invariant-loop-slot g l = (l.place ≡ l.slot-index) × (l.place + place_of (g.T.Item.same l.item) (drop l.slot-index l.slots) ≡ place_of (g.T.Item.same l.item) l.slots)
