use Rattle.std.proofs.Common.{◌∙◌, arith, lit<}
use Rattle.sorted_blocks.proofs.Moves.{is_start, before_is}
use Rattle.sorted_blocks.proofs.store.BlockStore.first.Goals as goal

pub settled-requires : goal.settled-requires
settled-requires g c = (lit< tt, is_start c.args.self.now)

pub returns-clause-before : goal.returns-clause-before
returns-clause-before g c = c.settled.ensures.before ∙ before_is c.args.self.now (record { block = 0; at = 0 })

pub returns-clause-item : goal.returns-clause-item
returns-clause-item g c h = c.settled.ensures.item (omega (arith, h, before_is c.args.self.now (record { block = 0; at = 0 })))
