use Rattle.sorted_blocks.proofs.Words.{lit<, ap, ◌∙◌, capacity}
use Rattle.sorted_blocks.proofs.Capacity.{spare_within, capacity_same}
use Rattle.sorted_blocks.proofs.blocks.Blocks.insert_within.Goals as goal

pub insert_reserved-requires : goal.insert_reserved-requires
insert_reserved-requires g c = (lit< tt, (rw c.self.view_is c.requires.place, spare_within g.row.HALF c.self.inside.store c.self.invariant (rw c.self.view_is c.requires.within)))

pub returns-clause-capacity : goal.returns-clause-capacity
returns-clause-capacity g c = capacity_same g.row.HALF c.self.inside.store c.insert_reserved.new.self c.insert_reserved.ensures.total ∙ ap (capacity g.row.HALF) c.self.view_is
