use Rattle.std.proofs.Common.{◌-◌, ◌+◌, ◌*◌, ◌/◌, sym, ap, ◌∙◌}
use Rattle.sorted_blocks.proofs.Capacity.{capacity_is}
use Rattle.sorted_blocks.proofs.store.BlockStore.capacity.Goals as goal

pub returns : goal.returns
returns g c = ap (λ n. n * (g.row.HALF + 1) / 2) (c.saturating_sub.ensures ∙ ap (λ n. n - 1) c.block_total.ensures.total) ∙ sym (capacity_is g.row.HALF c.args.self.now)
