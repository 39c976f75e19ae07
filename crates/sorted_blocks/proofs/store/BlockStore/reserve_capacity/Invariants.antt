use Rattle.sorted_blocks.proofs.Words.{◌≡◌, ◌-◌, ◌≤◌, block_total, capacity}
use Rattle.sorted_blocks.proofs.store.BlockStore.reserve_capacity.Given as goal

abbrev pub invariant-loop-self : goal.invariant-loop-self
invariant-loop-self g l = (l.self.blocks ≡ l.initial.self.blocks) × (capacity g.row.HALF l.initial.self ≤ capacity g.row.HALF l.self)

abbrev pub decreases-loop-self : goal.decreases-loop-self
decreases-loop-self g l = 4294967296 - block_total l.self
