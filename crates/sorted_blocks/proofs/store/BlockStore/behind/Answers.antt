use Rattle.std.proofs.Common.{◌+◌, arith}
use Rattle.sorted_blocks.proofs.Moves.{item_block, item_within, is_place, before_is}
use Rattle.sorted_blocks.proofs.store.BlockStore.behind.Goals as goal

pub returns-clause-place : goal.returns-clause-place
returns-clause-place g c = is_place c.args.self.now (record { block = c.args.place.block; at = c.args.place.at + 1 }) (item_block c.args.self.now c.args.place c.requires) (omega (arith, item_within c.args.self.now c.args.place c.requires))

pub returns-clause-before : goal.returns-clause-before
returns-clause-before g c = omega (arith, before_is c.args.self.now (record { block = c.args.place.block; at = c.args.place.at + 1 }), before_is c.args.self.now c.args.place)
