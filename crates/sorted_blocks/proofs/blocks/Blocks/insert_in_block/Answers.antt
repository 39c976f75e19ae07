use Rattle.sorted_blocks.proofs.Words.{ap, ◌∙◌, capacity}
use Rattle.sorted_blocks.proofs.Capacity.{capacity_same}
use Rattle.sorted_blocks.proofs.blocks.Blocks.insert_in_block.Goals as goal

pub returns-clause-capacity : goal.returns-clause-capacity
returns-clause-capacity g c = capacity_same g.row.HALF c.self.inside.store c.insert_in_block.new.self c.insert_in_block.ensures.total ∙ ap (capacity g.row.HALF) c.self.view_is
