use Rattle.sorted_blocks.proofs.Words.{◌-◌, refl, lit<, Less}
use Rattle.sorted_blocks.proofs.Finding.{can_item, reads, found_item}
use Rattle.sorted_blocks.proofs.store.BlockStore.find_before.Goals as goal

pub compare-requires : goal.compare-requires
compare-requires g c = can_item (g.P.Probe.can_compare c.args.probe.now) c.args.self.now (record { block = c.args.near.block; at = c.args.near.at - 1 }) c.get.result.now c.requires ((c.if-not-is_item.ensures {u = tt}).0 refl) c.get.ensures

pub find_behind-requires : goal.find_behind-requires
find_behind-requires g c =
    let item = (c.if-not-is_item.ensures {u = tt}).0 refl in
    (lit< tt, (c.requires, (item, reads (g.P.Probe.order c.args.probe.now) c.args.self.now (record { block = c.args.near.block; at = c.args.near.at - 1 }) c.get.result.now Less item c.get.ensures c.in-Less.ensures)))

pub returns-in-Equal : goal.returns-in-Equal
returns-in-Equal g c = found_item (g.P.Probe.order c.args.probe.now) c.args.self.now (record { block = c.args.near.block; at = c.args.near.at - 1 }) c.get.result.now ((c.if-not-is_item.ensures {u = tt}).0 refl) c.get.ensures c.in-Equal.ensures
