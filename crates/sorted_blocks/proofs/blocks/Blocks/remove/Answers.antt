use Rattle.sorted_blocks.proofs.Words.{ap, ◌∙◌, capacity}
use Rattle.sorted_blocks.proofs.Capacity.{capacity_same}
use Rattle.sorted_blocks.proofs.blocks.Blocks.remove.Goals as goal

pub returns-clause-capacity : goal.returns-clause-capacity
returns-clause-capacity g c = capacity_same g.row.HALF c.self.inside.store c.remove.new.self c.remove.ensures.total ∙ ap (capacity g.row.HALF) c.self.view_is
