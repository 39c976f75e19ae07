use Rattle.std.proofs.Common.{lit<}
use Rattle.sorted_blocks.proofs.Moves.{item_block, item_within, item_of}
use Rattle.sorted_blocks.proofs.store.BlockStore.get.Goals as goal

pub item_of-requires : goal.item_of-requires
item_of-requires g c = (lit< tt, (item_block c.args.self.now c.args.place c.requires, item_within c.args.self.now c.args.place c.requires))

pub returns : goal.returns
returns g c = item_of c.args.self.now c.args.place _ (item_block c.args.self.now c.args.place c.requires) (item_within c.args.self.now c.args.place c.requires) c.item_of.ensures
