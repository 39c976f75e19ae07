use Rattle.std.proofs.Common.{sym, ◌∙◌}
use Rattle.sorted_slab.proofs.Kept.{seen_length}
use Rattle.sorted_slab.proofs.slab_list.SortedSlab.len.Goals as goal

pub returns-clause-items : goal.returns-clause-items
returns-clause-items g c = c.len.ensures ∙ sym (seen_length c.self.inside.slab c.self.inside.index g.row.HALF c.args.self.now c.self.view_is c.self.invariant)
